-- What becomes of the volumes of a store's banks, each in its place.
use Rattle.std.specs.Prelude.{◌≡◌, ◌≢◌, ◌⊎◌, ℕ, ◌≤◌, IsTrue, List, length, Some, Result, OnOk, IfErr, slice_get}
use Rattle.disk_core.specs.Faults.{HasRisen}
use Rattle.disk_core.specs.Pages.{Pages}
use Rattle.disk_core.specs.declared.page_disk.PageDisk as disks
use Rattle.tx_events.specs.declared.record.Counters.{Counters}
use Rattle.tx_events.specs.declared.record.Rec.{Rec}
use Rattle.tx_events.specs.declared.refusal.Lock.{Lock}
use Rattle.tx_events.specs.LifeBase.{committed_in}
use Rattle.slru_bank.specs.Crash.{CrashLeaves}
use Rattle.replay_multis.specs.declared.offsets.OffsetSpan.{OffsetSpan}
use Rattle.replay_multis.specs.declared.redo_members.MemberSpan.{MemberSpan}
use Rattle.replay_multis.specs.declared.refusal.RestoreRefusal.{RestoreRefusal}
use Rattle.replay_multis.specs.declared.refusal.RestoreRefusal.TheVariants as restores
use Rattle.replay_multis.specs.Named.{IsMemberByte, IsOffsetByte}
use Rattle.replay_multis.specs.Restore.{IsPastMulti, IsPastOffset, MayBecome}
use Rattle.replay_multis.specs.Restore as multis
use Rattle.replay_multis.specs.Steps.{MayLeave}
use Rattle.replay_core.specs.Redo.{IsNamed}
use Rattle.replay_core.specs.Restore.{HasBytesOnDisk, MayRestore, RestoresAll, bytes_on}
use Rattle.replay_core.specs.Spans.{member_span, offset_span}
use Rattle.replay_core.specs.Begun.{AreEmpty, IsEmpty}
use Rattle.recoverable.specs.Clusters.{HasFailedAt}
use Rattle.replay_core.specs.declared.refusal.RecoverRefusal.{RecoverRefusal}
use Rattle.replay_core.specs.declared.refusal.RecoverRefusal.TheVariants as refusals

-- one volume of a row became another, and the others stay
pub record ChangesAt {P : Type 0} (R : P → P → Type 0) (place : ℕ) (old new : List P) : Type 0 where
  pub count : length new ≡ length old
  pub before : P
  pub now : P
  pub was : slice_get old place ≡ Some before
  pub is : slice_get new place ≡ Some now
  pub changed : R before now
  pub others : (n : ℕ) → n ≢ place → slice_get new n ≡ slice_get old n

-- what a refusal of the bank behind a lock means
abbrev pub IsRefusalAt : Lock → RestoreRefusal → RecoverRefusal → Type 0
IsRefusalAt lock restores.DiskFault refusal = refusal ≡ refusals.DiskFault lock
IsRefusalAt lock restores.Memory refusal = refusal ≡ refusals.Memory

-- what a crash may leave of an image of a bank, over the bytes that its volume read at first, and what its volume comes to
-- read
abbrev pub Leaving : Type 1
Leaving = (ℕ → List ℕ) → Pages → Pages → Type 0

abbrev pub Becoming : Type 1
Becoming = (ℕ → List ℕ) → (ℕ → List ℕ) → Type 0

-- those of a bank of pg_xact, of offsets and of members, by how many banks there are
abbrev pub states_leave : ℕ → List Rec → Counters → ℕ → Leaving
states_leave banks recs base bank = MayRestore (IsNamed (record { banks = banks; bank = bank }) base.oldest (committed_in recs)) base.next

abbrev pub states_become : ℕ → List Rec → Counters → ℕ → Becoming
states_become banks recs base bank = RestoresAll (IsNamed (record { banks = banks; bank = bank }) base.oldest (committed_in recs)) base.next

abbrev pub offsets_leave : ℕ → List Rec → OffsetSpan → ℕ → Leaving
offsets_leave banks recs span bank = MayLeave (MayBecome (IsOffsetByte (record { banks = banks; bank = bank }) span.oldest recs) (IsPastMulti span.from) (IsPastMulti span.next))

abbrev pub offsets_become : ℕ → List Rec → OffsetSpan → ℕ → Becoming
offsets_become banks recs span bank = multis.RestoresAll (IsOffsetByte (record { banks = banks; bank = bank }) span.oldest recs) (IsPastMulti span.from) (IsPastMulti span.next)

abbrev pub members_leave : ℕ → List Rec → MemberSpan → ℕ → Leaving
members_leave banks recs span bank = MayLeave (MayBecome (IsMemberByte (record { banks = banks; bank = bank }) span.oldest span.oldest_offset recs) (IsPastOffset span.from) (IsPastOffset span.next))

abbrev pub members_become : ℕ → List Rec → MemberSpan → ℕ → Becoming
members_become banks recs span bank = multis.RestoresAll (IsMemberByte (record { banks = banks; bank = bank }) span.oldest span.oldest_offset recs) (IsPastOffset span.from) (IsPastOffset span.next)

module _ {P : Type 0} (p : disks.Ghosts P) where
  -- only a failure of this bank's volume, or want of memory
  abbrev pub IsCause : Lock → Result (Unit {0}) RecoverRefusal → P → P → Type 0
  IsCause lock result old new = IfErr result (λ refusal. (refusal ≡ refusals.Memory) ⊎ ((refusal ≡ refusals.DiskFault lock) × HasRisen (p.faults old) (p.faults new)))

  -- the volume of the bank behind this lock is restored, or what may be left on the way there
  pub record Restoring (lock : Lock) (Leaves : Leaving) (Becomes : Becoming) (result : Result (Unit {0}) RecoverRefusal) (old new : P) : Type 0 where
    pub moments : IsTrue p.tells → CrashLeaves (Leaves (bytes_on p old)) p.images p.moment p.left_at old new
    pub shows : IsTrue p.tells → OnOk result (Becomes (bytes_on p old) (bytes_on p new))
    pub durable : IsTrue p.tells → OnOk result (HasBytesOnDisk p new)
    pub cause : IsCause lock result old new
    pub count : p.faults old ≤ p.faults new

  -- it is emptied
  pub record Emptying (lock : Lock) (result : Result (Unit {0}) RecoverRefusal) (old new : P) : Type 0 where
    pub empty : IsTrue p.tells → OnOk result (IsEmpty p new)
    pub cause : IsCause lock result old new
    pub count : p.faults old ≤ p.faults new

  -- of no volume the count of faults fell
  abbrev pub NoCountFell : List P → List P → Type 0
  NoCountFell old new = (bank : ℕ) (before now : P) → slice_get old bank ≡ Some before → slice_get new bank ≡ Some now → p.faults before ≤ p.faults now

  -- Of each volume of a store: at each moment a crash left what was there, or what is to be.
  abbrev pub AreLeaving : (ℕ → Leaving) → List P → List P → Type 0
  AreLeaving leaves old new = (bank : ℕ) (before now : P) → slice_get old bank ≡ Some before → slice_get new bank ≡ Some now
      → CrashLeaves (leaves bank (bytes_on p before)) p.images p.moment p.left_at before now

  -- all of that is there, on disk
  abbrev pub AreBecome : (ℕ → Becoming) → List P → List P → Type 0
  AreBecome becomes old new = (bank : ℕ) (before now : P) → slice_get old bank ≡ Some before → slice_get new bank ≡ Some now
      → becomes bank (bytes_on p before) (bytes_on p now) × HasBytesOnDisk p now

  -- of pg_xact, of offsets and of members
  abbrev pub AreRestoring : List Rec → Counters → List P → List P → Type 0
  AreRestoring recs base old new = AreLeaving (states_leave (length old) recs base) old new

  abbrev pub AreRestored : List Rec → Counters → List P → List P → Type 0
  AreRestored recs base old new = AreBecome (states_become (length old) recs base) old new

  abbrev pub AreOffsetsRestoring : List Rec → Counters → List P → List P → Type 0
  AreOffsetsRestoring recs base old new = AreLeaving (offsets_leave (length old) recs (offset_span recs base)) old new

  abbrev pub AreOffsetsRestored : List Rec → Counters → List P → List P → Type 0
  AreOffsetsRestored recs base old new = AreBecome (offsets_become (length old) recs (offset_span recs base)) old new

  abbrev pub AreMembersRestoring : List Rec → Counters → List P → List P → Type 0
  AreMembersRestoring recs base old new = AreLeaving (members_leave (length old) recs (member_span recs base)) old new

  abbrev pub AreMembersRestored : List Rec → Counters → List P → List P → Type 0
  AreMembersRestored recs base old new = AreBecome (members_become (length old) recs (member_span recs base)) old new

  -- why the volumes of a store weren't made so
  abbrev pub IsStoreRefusal : (ℕ → Lock) → List P → List P → RecoverRefusal → Type 0
  IsStoreRefusal lock old new refusal = (refusal ≡ refusals.Memory) ⊎ ((bank : ℕ) × (refusal ≡ refusals.DiskFault (lock bank)) × HasFailedAt p.faults bank old new)

  -- the volumes of a store, whose banks have these locks
  pub record RestoresBanks (lock : ℕ → Lock) (leaves : ℕ → Leaving) (becomes : ℕ → Becoming) (old new : List P) (result : Result (Unit {0}) RecoverRefusal) : Type 0 where
    pub count : length new ≡ length old
    pub moments : IsTrue p.tells → AreLeaving leaves old new
    pub restored : IsTrue p.tells → OnOk result (AreBecome becomes old new)
    pub refused : IfErr result (IsStoreRefusal lock old new)
    pub counted : NoCountFell old new

  pub record EmptiesBanks (lock : ℕ → Lock) (old new : List P) (result : Result (Unit {0}) RecoverRefusal) : Type 0 where
    pub count : length new ≡ length old
    pub empty : IsTrue p.tells → OnOk result (AreEmpty p new)
    pub refused : IfErr result (IsStoreRefusal lock old new)
    pub counted : NoCountFell old new
