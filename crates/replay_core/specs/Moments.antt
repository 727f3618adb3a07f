-- What a crash leaves of the volumes at the moments of a recovery.
use Rattle.std.specs.Prelude.{◌≡◌, ◌⊎◌, ℕ, ◌+◌, ◌≤◌, List, [], ◌∷◌, ◌++◌, length, Some, Result, Ok, Err, slice_get}
use Rattle.disk_core.specs.Images.{LeavesOnly}
use Rattle.disk_core.specs.Pages.{Pages}
use Rattle.disk_core.specs.Volume.{Volume}
use Rattle.disk_core.specs.declared.log_disk.LogDisk as logs
use Rattle.disk_core.specs.declared.media.Volumes.{Volumes}
use Rattle.disk_core.specs.declared.page_disk.PageDisk as disks
use Rattle.tx_events.specs.declared.record.Counters.{Counters}
use Rattle.tx_events.specs.declared.record.Rec.{Rec}
use Rattle.tx_events.specs.declared.record.Rec.TheVariants as records
use Rattle.wal_core.specs.Kept.{HasFlushed, first_on}
use Rattle.wal_core.specs.LogViews.{KeepsAll, log_disk, log_first, log_next}
use Rattle.wal_core.specs.declared.wal_log.WalLog.{WalLog}
use Rattle.recoverable.specs.Clusters.{AreLeft}
use Rattle.recoverable.specs.Fit.{KeptLog}
use Rattle.recoverable.specs.Volumes.{ImageFits, Left, ListFits, Recovers}
use Rattle.replay_core.specs.declared.cluster.Recovered.{Recovered}
use Rattle.replay_core.specs.declared.found.FoundLog.{FoundLog}
use Rattle.replay_core.specs.declared.found.FoundLog.TheVariants as found_logs
use Rattle.replay_core.specs.declared.refusal.RecoverRefusal.{RecoverRefusal}
use Rattle.replay_core.specs.Refused.{volumes_of}

-- ---- the log's volume

-- an image has the records of a list without the checkpoint, or maybe with it; or it is on disk, and the log may begin with it
abbrev pub MayHaveSettled : ℕ → List Rec → ℕ → ℕ → Counters → Volume → Type 0
MayHaveSettled first all kept number base v =
    HasFlushed first all kept number v
    ⊎ (HasFlushed first (all ++ records.Checkpoint number base ∷ []) kept number v ⊎ HasFlushed first (all ++ records.Checkpoint number base ∷ []) number (number + 1) v)

module _ {D : Type 0} {g : logs.Ghosts D} where
  -- the volume of the log that was found
  abbrev pub disk_found : FoundLog D g → D
  disk_found (found_logs.New log) = log_disk log
  disk_found (found_logs.Old found) = log_disk found.log

module _ {D : Type 0} (g : logs.Ghosts D) where
  -- so at every moment, of each list that the log kept before
  abbrev pub SettlesThroughout : Counters → WalLog D g → WalLog D g → Type 0
  SettlesThroughout base old new = (first : ℕ) (all : List Rec) → KeepsAll first all g.images old
      → LeavesOnly g.moment g.left_at (log_disk old) (log_disk new) (MayHaveSettled first all (log_first old) (log_next old) base)

-- ---- all volumes

-- at some moment of a call, in which the one volume became the other, a crash left this
pub record WasLeft {D I : Type 0} (moment : D → ℕ) (left_at : D → ℕ → I → Type 0) (old new : D) (c : I) : Type 0 where
  pub at : ℕ
  pub from : moment old ≤ at
  pub upto : at ≤ moment new
  pub left : left_at new at c

-- What a crash left fits a log, and a recovery from there answers what one from the log before might have answered.
pub record StillFits (banks : ℕ) (log : KeptLog) (left : Left) : Type 0 where
  pub later : KeptLog
  pub recovers : Recovers log later
  pub list : ListFits later
  pub fits : ImageFits banks later left

module _ {L P : Type 0} (l : logs.Ghosts L) (p : disks.Ghosts P) where
  -- the volumes of a store's banks were left so, each at some moment
  abbrev pub WereLeft : List P → List P → (ℕ → Pages) → Type 0
  WereLeft old new left = (bank : ℕ) (before now : P) → slice_get old bank ≡ Some before → slice_get new bank ≡ Some now → WasLeft p.moment p.left_at before now (left bank)

  -- The log's volume was left so at some moment, and those of pg_xact, of offsets and of members at any others.
  pub record WereAllLeft (old new : Volumes L P) (left : Left) : Type 0 where
    pub log : WasLeft l.moment l.left_at old.log new.log left.log
    pub states : WereLeft old.xact.items new.xact.items left.xact
    pub offsets : WereLeft old.offsets.items new.offsets.items left.offsets
    pub members : WereLeft old.members.items new.members.items left.members

  -- the log's volume at some moment, and of the others what a crash leaves behind the call
  pub record WasLogLeft (old new : Volumes L P) (left : Left) : Type 0 where
    pub log : WasLeft l.moment l.left_at old.log new.log left.log
    pub states : AreLeft l p new.xact.items left.xact
    pub offsets : AreLeft l p new.offsets.items left.offsets
    pub members : AreLeft l p new.members.items left.members

  -- no bank's volume goes back to an earlier moment
  abbrev pub AreLater : List P → List P → Type 0
  AreLater old new = (bank : ℕ) (before now : P) → slice_get old bank ≡ Some before → slice_get new bank ≡ Some now → p.moment before ≤ p.moment now

  -- At every moment of each volume a crash left what fits: while the log begins as it did, with the pages of any moments;
  -- and however it begins, with the pages as the call leaves them. Each volume has its moments in turn.
  pub record FitThroughout (old new : Volumes L P) (first : ℕ) (log : KeptLog) : Type 0 where
    pub log_later : l.moment old.log ≤ l.moment new.log
    pub states_later : AreLater old.xact.items new.xact.items
    pub offsets_later : AreLater old.offsets.items new.offsets.items
    pub members_later : AreLater old.members.items new.members.items
    pub as_before : (left : Left) → WereAllLeft old new left → first_on left.log ≡ first → StillFits (length old.xact.items) log left
    pub as_left : (left : Left) → WasLogLeft old new left → StillFits (length old.xact.items) log left

  -- the volumes that a recovery leaves
  abbrev pub volumes_after : Result (Recovered L P l) (Volumes L P × RecoverRefusal) → Volumes L P
  volumes_after (Ok r) = volumes_of (log_disk r.log) r.xact r.subtrans r.offsets r.members
  volumes_after (Err e) = e.0
