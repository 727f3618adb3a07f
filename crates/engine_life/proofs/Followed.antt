-- Each image of the volume of the part behind a bank's lock follows the bank's list.
use Rattle.std.proofs.Common.{ℕ, ◌≡◌, IsTrue, List, Some, arith, refl, subst}
use Rattle.disk_core.specs.Pages.{Pages}
use Rattle.disk_core.specs.declared.log_disk.LogDisk as logs
use Rattle.disk_core.specs.declared.page_disk.PageDisk as disks
use Rattle.notes.specs.Lists.{at}
use Rattle.slru_bank.specs.Calls.{volume_of}
use Rattle.tx_core.specs.declared.entry.Entry.{Entry}
use Rattle.tx_core.specs.declared.entry.Start.{Start}
use Rattle.tx_core.specs.EngineInvariant.{EngineInvariant}
use Rattle.tx_core.specs.Entries.{AreFewIds}
use Rattle.tx_core.specs.Locks.{xact_lock}
use Rattle.bank_follows.proofs.Followed.{states_follow}
use Rattle.engine_parts.specs.Course.{HasCourse}
use Rattle.engine_parts.specs.Parts.{PartStands}
use Rattle.engine_parts.specs.declared.part.Part.{Part}
use Rattle.engine_parts.specs.declared.part.Part.TheVariants as parts
use Rattle.engine_host.specs.Stores.{disk_in, of_xact}
use Rattle.engine_life.specs.Lives.{FollowsList}

module _ {L P : Type 0} {l : logs.Ghosts L} (p : disks.Ghosts P) (start : Start) (lists : List (List Entry)) (told : IsTrue p.tells) (only_now : (d : P) (c : Pages) → p.left_at d (p.moment d) c → p.images d c) (kept : EngineInvariant start lists) (few : AreFewIds lists) where
  pub follows_here : (bank : ℕ) (part : Part L P l p) → PartStands start (xact_lock bank) part (at lists (xact_lock bank)) → (v : P) × (disk_in of_xact part ≡ Some v) × FollowsList p start lists bank v
  follows_here bank (parts.Log log) k = absurd (let e = k.0 in omega (arith, e))
  follows_here bank (parts.Proc table) k = absurd (let e = k.0 in omega (arith, e))
  follows_here bank (parts.Xact store) k =
      let same : k.0 ≡ bank = let e = k.1 in omega (arith, e) in
      let course = subst (λ b. HasCourse start b store.value (at lists (xact_lock bank))) same (k.2.course told) in
      (volume_of store.value, refl, states_follow p start bank told only_now lists store.value kept few course)
  follows_here bank (parts.Subtrans store) k = absurd (let e = k.1 in omega (arith, e))
  follows_here bank (parts.Multi gen) k = absurd (let e = k.0 in omega (arith, e))
  follows_here bank (parts.Offsets store) k = absurd (let e = k.1 in omega (arith, e))
  follows_here bank (parts.Members store) k = absurd (let e = k.1 in omega (arith, e))
