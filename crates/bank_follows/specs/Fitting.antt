-- The volumes of an engine whose parts stand for the lists of their locks: they fit.
use Rattle.std.specs.Prelude.{◌≡◌, ℕ, ◌+◌, ◌*◌, ◌<◌, IsTrue, List}
use Rattle.disk_core.specs.declared.log_disk.LogDisk as logs
use Rattle.disk_core.specs.declared.page_disk.PageDisk as disks
use Rattle.disk_core.specs.Pages.{Pages}
use Rattle.disk_core.specs.Volume.{Volume}
use Rattle.notes.specs.Lists.{at}
use Rattle.slru_bank.specs.Calls.{volume_of}
use Rattle.wal_core.specs.LogViews.{log_disk}
use Rattle.tx_core.specs.declared.entry.Entry.{Entry}
use Rattle.tx_core.specs.declared.entry.Start.{Start}
use Rattle.tx_core.specs.EngineInvariant.{EngineInvariant}
use Rattle.tx_core.specs.Entries.{flushed_to}
use Rattle.tx_core.specs.Locks.{log_lock, members_lock, offsets_lock, xact_lock}
use Rattle.recoverable.specs.Fit.{KeptLog}
use Rattle.recoverable.specs.Laws.{LogFollows}
use Rattle.recoverable.specs.Volumes.{Left, VolumesFit}
use Rattle.recoverable.specs.Whole.{BeganRight, IsShort}
use Rattle.engine_parts.specs.declared.part.Part.{Part}
use Rattle.engine_parts.specs.declared.part.Part.TheVariants as parts
use Rattle.engine_parts.specs.Parts.{PartStands}

-- There is a log that follows the lists, on disk just as far as they say, and whatever a crash leaves so fits it: a recovery
-- may begin from it.
pub record FitSoFar (start : Start) (lists : List (List Entry)) (Leaves : Left → Type 0) : Type 0 where
  pub kept : KeptLog
  pub follows : LogFollows start lists kept
  pub flushed : kept.flushed ≡ flushed_to start (at lists log_lock)
  pub fit : VolumesFit start.banks kept Leaves

module _ {L P : Type 0} {l : logs.Ghosts L} {p : disks.Ghosts P} where
  -- a crash leaves the volume of a log, or of a bank, so
  abbrev pub LeavesLog : Part L P l p → Volume → Type 0
  LeavesLog (parts.Log log) v = l.images (log_disk log.value) v
  LeavesLog part v = ⊥

  abbrev pub LeavesPages : Part L P l p → Pages → Type 0
  LeavesPages (parts.Xact store) c = p.images (volume_of store.value) c
  LeavesPages (parts.Subtrans store) c = p.images (volume_of store.value) c
  LeavesPages (parts.Offsets store) c = p.images (volume_of store.value) c
  LeavesPages (parts.Members store) c = p.images (volume_of store.value) c
  LeavesPages part c = ⊥

  -- so those of the parts behind all locks
  pub record LeftBehind (banks : ℕ) (behind : ℕ → Part L P l p) (left : Left) : Type 0 where
    pub log : LeavesLog (behind log_lock) left.log
    pub xact : (bank : ℕ) → bank < banks → LeavesPages (behind (xact_lock bank)) (left.xact bank)
    pub offsets : (bank : ℕ) → bank < banks → LeavesPages (behind (offsets_lock bank)) (left.offsets bank)
    pub members : (bank : ℕ) → bank < banks → LeavesPages (behind (members_lock bank)) (left.members bank)

  -- each part stands for the list of its lock
  abbrev pub AllStand : Start → List (List Entry) → (ℕ → Part L P l p) → Type 0
  AllStand start lists behind = (lock : ℕ) → lock < 3 + 4 * start.banks → PartStands start lock (behind lock) (at lists lock)

module _ {L P : Type 0} (l : logs.Ghosts L) (p : disks.Ghosts P) where
  -- The volumes of whatever stands for these lists fit, where they tell what they hold.
  abbrev pub PartsFit : Start → List (List Entry) → Type 0
  PartsFit start lists = IsTrue l.tells → IsTrue p.tells → (behind : ℕ → Part L P l p) → AllStand start lists behind
      → FitSoFar start lists (LeftBehind start.banks behind)

  -- So it is where the engine invariant holds, in a short life that began right.
  abbrev pub PartsFitLaw : Type 0
  PartsFitLaw = (start : Start) (lists : List (List Entry)) → EngineInvariant start lists → BeganRight start → IsShort lists
      → PartsFit start lists
