-- Each image of the volume of the part behind the lock of a bank of offsets or of members follows the bank's list.
use Rattle.std.proofs.Common.{ℕ, ◌≡◌, IsTrue, List, Some, arith, refl, subst}
use Rattle.disk_core.specs.Pages.{Pages}
use Rattle.disk_core.specs.declared.log_disk.LogDisk as logs
use Rattle.disk_core.specs.declared.page_disk.PageDisk as disks
use Rattle.notes.specs.Lists.{at}
use Rattle.slru_bank.specs.Calls.{volume_of}
use Rattle.tx_core.specs.declared.entry.Entry.{Entry}
use Rattle.tx_core.specs.declared.entry.Start.{Start}
use Rattle.tx_core.specs.EngineInvariant.{EngineInvariant}
use Rattle.tx_core.specs.Locks.{members_lock, offsets_lock}
use Rattle.tx_core.specs.MultiEntries.{AreFewMultis}
use Rattle.tx_events.specs.Base.{IsBase}
use Rattle.recoverable.specs.Whole.{MembersLeft, OffsetsLeft}
use Rattle.bank_follows.proofs.MultisFollowed.{members_follow, offsets_follow}
use Rattle.engine_parts.specs.BankCourse.{MembersCame, OffsetsCame}
use Rattle.engine_parts.specs.Parts.{PartStands}
use Rattle.engine_parts.specs.declared.part.Part.{Part}
use Rattle.engine_parts.specs.declared.part.Part.TheVariants as parts
use Rattle.engine_host.specs.Stores.{disk_in, of_members, of_offsets}

module _ {L P : Type 0} {l : logs.Ghosts L} (p : disks.Ghosts P) (start : Start) (lists : List (List Entry)) (told : IsTrue p.tells) (only_now : (d : P) (c : Pages) → p.left_at d (p.moment d) c → p.images d c) (kept : EngineInvariant start lists) (base : IsBase start.base) (few : AreFewMultis lists) where
  pub offsets_here : (bank : ℕ) (part : Part L P l p) → PartStands start (offsets_lock bank) part (at lists (offsets_lock bank))
      → (v : P) × (disk_in of_offsets part ≡ Some v) × ((c : Pages) → p.images v c → OffsetsLeft start bank (at lists (offsets_lock bank)) c)
  offsets_here bank (parts.Log log) k = absurd (let e = k.0 in omega (arith, e))
  offsets_here bank (parts.Proc table) k = absurd (let e = k.0 in omega (arith, e))
  offsets_here bank (parts.Multi gen) k = absurd (let e = k.0 in omega (arith, e))
  offsets_here bank (parts.Xact store) k = absurd (let e = k.1 in omega (arith, e))
  offsets_here bank (parts.Subtrans store) k = absurd (let e = k.1 in omega (arith, e))
  offsets_here bank (parts.Offsets store) k =
      let same : k.0 ≡ bank = let e = k.1 in omega (arith, e) in
      let course = subst (λ b. OffsetsCame start b store.value (at lists (offsets_lock bank))) same (k.2.course told) in
      (volume_of store.value, refl, λ c left. offsets_follow p told only_now start lists kept base few bank store.value c left course)
  offsets_here bank (parts.Members store) k = absurd (let e = k.1 in omega (arith, e))

  pub members_here : (bank : ℕ) (part : Part L P l p) → PartStands start (members_lock bank) part (at lists (members_lock bank))
      → (v : P) × (disk_in of_members part ≡ Some v) × ((c : Pages) → p.images v c → MembersLeft start bank (at lists (members_lock bank)) c)
  members_here bank (parts.Log log) k = absurd (let e = k.0 in omega (arith, e))
  members_here bank (parts.Proc table) k = absurd (let e = k.0 in omega (arith, e))
  members_here bank (parts.Multi gen) k = absurd (let e = k.0 in omega (arith, e))
  members_here bank (parts.Xact store) k = absurd (let e = k.1 in omega (arith, e))
  members_here bank (parts.Subtrans store) k = absurd (let e = k.1 in omega (arith, e))
  members_here bank (parts.Offsets store) k = absurd (let e = k.1 in omega (arith, e))
  members_here bank (parts.Members store) k =
      let same : k.0 ≡ bank = let e = k.1 in omega (arith, e) in
      let course = subst (λ b. MembersCame start b store.value (at lists (members_lock bank))) same (k.2.course told) in
      (volume_of store.value, refl, λ c left. members_follow p told only_now start lists kept base few bank store.value c left course)
