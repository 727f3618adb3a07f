-- The law on all volumes, from what an engine's values hold: so the volumes of an engine fit.
use Rattle.std.specs.Prelude.{ℕ, ◌<◌, Bool, IsTrue, List, Option}
use Rattle.disk_core.specs.Pages.{Pages}
use Rattle.disk_core.specs.Volume.{Volume}
use Rattle.notes.specs.Lists.{at}
use Rattle.tx_events.specs.declared.record.Rec.{Rec}
use Rattle.wal_core.specs.Kept.{KeepsRecords}
use Rattle.tx_core.specs.declared.entry.Entry.{Entry}
use Rattle.tx_core.specs.declared.entry.Start.{Start}
use Rattle.tx_core.specs.declared.entry.State.{State}
use Rattle.tx_core.specs.CleanStart.{CleanStart}
use Rattle.tx_core.specs.EngineInvariant.{EngineInvariant}
use Rattle.tx_core.specs.Locks.{log_lock, members_lock, offsets_lock, xact_lock}
use Rattle.recoverable.specs.Bytes.{HasZeroTails, ImageHasZeroTails, StoredBytes}
use Rattle.recoverable.specs.Fit.{KeptLog}
use Rattle.recoverable.specs.Laws.{IsBeginningOf, LogOf}
use Rattle.recoverable.specs.MemberImages.{CleanMembers}
use Rattle.recoverable.specs.OffsetImages.{CleanOffsets}
use Rattle.recoverable.specs.Volumes.{VolumesFit}
use Rattle.recoverable.specs.Whole.{BeganRight, Disks, IsShort, LeftOf}
use Rattle.bank_follows.specs.Standing.{StandsIfNear}
use Rattle.bank_follows.specs.Stores.{IsMemberAt, IsOffsetAt, IsXactAt, member_cells, offset_cells, xact_cells}

-- The log's value: this is its log, of which each image has the records on disk, and the first record that is kept is
-- one at which the log may begin. `recs`, `next` and `kept` are `log_recs`, `log_next` and `log_first`.
pub record LogHolds (start : Start) (es : List Entry) (log : KeptLog) (recs : List Rec) (next kept : ℕ)
    (images : Volume → Type 0) : Type 0 where
  pub is_of : LogOf start es log
  pub keeps : KeepsRecords log.first log.recs recs next kept log.flushed images
  pub beginning : IsBeginningOf start es kept

module _ {D : Type 0} (images : D → Pages → Type 0) (moment : D → ℕ) (left_at : D → ℕ → Pages → Type 0) where
  -- A bank's value, whose pages, cutoff and last page are these: in a life of few numbers it stands for its list, over
  -- pages that showed the life's base.
  pub record XactHolds (start : Start) (bank : ℕ) (es : List Entry) (pages : ℕ → List ℕ) (cutoff last : ℕ)
      (d : D) : Type 0 where
    pub shown : ℕ → Option State
    pub clean : CleanStart start shown
    pub stands :
        StandsIfNear images moment left_at (xact_cells start shown) (IsXactAt start bank) es pages cutoff last d

  pub record OffsetsHold (start : Start) (bank : ℕ) (es : List Entry) (pages : ℕ → List ℕ) (cutoff last : ℕ)
      (d : D) : Type 0 where
    pub shown : ℕ → Option StoredBytes
    pub clean : CleanOffsets start shown
    pub stands :
        StandsIfNear images moment left_at (offset_cells start shown) (IsOffsetAt start bank) es pages cutoff last d

  pub record MembersHold (start : Start) (bank : ℕ) (es : List Entry) (pages : ℕ → List ℕ) (cutoff last : ℕ)
      (d : D) : Type 0 where
    pub shown : ℕ → Option StoredBytes
    pub clean : CleanMembers start shown
    pub stands :
        StandsIfNear images moment left_at (member_cells start shown) (IsMemberAt start bank) es pages cutoff last d
    pub map_tails : HasZeroTails pages
    pub tails : (c : Pages) → images d c → ImageHasZeroTails c

-- a bank, as it is seen: its pages, its cutoff, its last page and its disk
pub record SeenBank (D : Type 0) : Type 0 where
  pub pages : ℕ → List ℕ
  pub cutoff : ℕ
  pub last : ℕ
  pub disk : D

-- the log's disk, and the banks of each store
pub record SeenEngine (L D : Type 0) : Type 0 where
  pub log : L
  pub xact : ℕ → SeenBank D
  pub offsets : ℕ → SeenBank D
  pub members : ℕ → SeenBank D

abbrev pub disks_of : {L D : Type 0} → SeenEngine L D → Disks L D
disks_of engine = record {
  log = engine.log;
  xact = λ bank. (engine.xact bank).disk;
  offsets = λ bank. (engine.offsets bank).disk;
  members = λ bank. (engine.members bank).disk;
}

module _ {L D : Type 0} (log_images : L → Volume → Type 0) (images : D → Pages → Type 0) (moment : D → ℕ)
    (left_at : D → ℕ → Pages → Type 0) where
  -- what the values of all locks hold, of disks that tell what they are asked
  pub record EngineHolds (start : Start) (lists : List (List Entry)) (tells : Bool) (log : KeptLog) (recs : List Rec)
      (next kept : ℕ) (engine : SeenEngine L D) : Type 0 where
    pub log_holds : IsTrue tells → LogHolds start (at lists log_lock) log recs next kept (log_images engine.log)
    pub xact : (bank : ℕ) → bank < start.banks → IsTrue tells → (let b = engine.xact bank in
        XactHolds images moment left_at start bank (at lists (xact_lock bank)) b.pages b.cutoff b.last b.disk)
    pub offsets : (bank : ℕ) → bank < start.banks → IsTrue tells → (let b = engine.offsets bank in
        OffsetsHold images moment left_at start bank (at lists (offsets_lock bank)) b.pages b.cutoff b.last b.disk)
    pub members : (bank : ℕ) → bank < start.banks → IsTrue tells → (let b = engine.members bank in
        MembersHold images moment left_at start bank (at lists (members_lock bank)) b.pages b.cutoff b.last b.disk)

  abbrev pub EngineFits : Type 0
  EngineFits = (start : Start) (lists : List (List Entry)) (tells : Bool) (log : KeptLog) (recs : List Rec)
      (next kept : ℕ) (engine : SeenEngine L D) → EngineInvariant start lists → BeganRight start → IsShort lists
      → IsTrue tells → EngineHolds start lists tells log recs next kept engine
      → VolumesFit start.banks log (LeftOf log_images images start.banks (disks_of engine))
