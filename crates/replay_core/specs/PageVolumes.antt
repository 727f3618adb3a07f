-- What becomes of the volumes of all stores.
use Rattle.std.specs.Prelude.{◌≡◌, ◌⊎◌, ◌≤◌, IsTrue, List, length, Result, OnOk, IfErr}
use Rattle.disk_core.specs.declared.page_disk.PageDisk as disks
use Rattle.tx_events.specs.declared.record.Counters.{Counters}
use Rattle.tx_events.specs.declared.record.Rec.{Rec}
use Rattle.tx_events.specs.declared.refusal.Lock.TheVariants as locks
use Rattle.replay_core.specs.Banks.{AreMembersRestored, AreMembersRestoring, AreOffsetsRestored, AreOffsetsRestoring, AreRestored, AreRestoring, IsStoreRefusal, NoCountFell}
use Rattle.replay_core.specs.Begun.{AreEmpty}
use Rattle.replay_core.specs.declared.refusal.RecoverRefusal.{RecoverRefusal}
use Rattle.replay_core.specs.declared.volumes.PageVolumes.{PageVolumes}

-- at most 16 of each
pub record AreFew {P : Type 0} (volumes : PageVolumes P) : Type 0 where
  pub xact : length volumes.xact.items ≤ 16
  pub subtrans : length volumes.subtrans.items ≤ 16
  pub offsets : length volumes.offsets.items ≤ 16
  pub members : length volumes.members.items ≤ 16

-- as many of each
pub record SameCounts {P : Type 0} (old new : PageVolumes P) : Type 0 where
  pub xact : length new.xact.items ≡ length old.xact.items
  pub subtrans : length new.subtrans.items ≡ length old.subtrans.items
  pub offsets : length new.offsets.items ≡ length old.offsets.items
  pub members : length new.members.items ≡ length old.members.items

module _ {P : Type 0} (p : disks.Ghosts P) where
  -- of none the count of faults fell
  pub record NoCountsFell (old new : PageVolumes P) : Type 0 where
    pub xact : NoCountFell p old.xact.items new.xact.items
    pub subtrans : NoCountFell p old.subtrans.items new.subtrans.items
    pub offsets : NoCountFell p old.offsets.items new.offsets.items
    pub members : NoCountFell p old.members.items new.members.items

  -- at each moment a crash left of pg_xact, of offsets and of members what was there, or what is to be
  pub record ArePagesLeft (recs : List Rec) (base : Counters) (old new : PageVolumes P) : Type 0 where
    pub xact : AreRestoring p recs base old.xact.items new.xact.items
    pub offsets : AreOffsetsRestoring p recs base old.offsets.items new.offsets.items
    pub members : AreMembersRestoring p recs base old.members.items new.members.items

  -- all of that is there, on disk, and pg_subtrans is empty
  pub record ArePagesRestored (recs : List Rec) (base : Counters) (old new : PageVolumes P) : Type 0 where
    pub xact : AreRestored p recs base old.xact.items new.xact.items
    pub offsets : AreOffsetsRestored p recs base old.offsets.items new.offsets.items
    pub members : AreMembersRestored p recs base old.members.items new.members.items
    pub subtrans : AreEmpty p new.subtrans.items

  -- why they weren't restored
  abbrev pub IsPagesRefusal : PageVolumes P → PageVolumes P → RecoverRefusal → Type 0
  IsPagesRefusal old new refusal =
      IsStoreRefusal p (λ bank. locks.Xact bank) old.xact.items new.xact.items refusal
      ⊎ (IsStoreRefusal p (λ bank. locks.Offsets bank) old.offsets.items new.offsets.items refusal
      ⊎ (IsStoreRefusal p (λ bank. locks.Members bank) old.members.items new.members.items refusal
      ⊎ IsStoreRefusal p (λ bank. locks.Subtrans bank) old.subtrans.items new.subtrans.items refusal))

  pub record RestoresPages (recs : List Rec) (base : Counters) (old new : PageVolumes P) (result : Result (Unit {0}) RecoverRefusal) : Type 0 where
    pub count : SameCounts old new
    pub moments : IsTrue p.tells → ArePagesLeft recs base old new
    pub restored : IsTrue p.tells → OnOk result (ArePagesRestored recs base old new)
    pub refused : IfErr result (IsPagesRefusal old new)
    pub counted : NoCountsFell old new
