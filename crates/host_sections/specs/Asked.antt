-- What a critical section of the host asks the volume behind its lock, and what a crash leaves of it at each moment.
use Rattle.std.specs.Prelude.{ℕ, ◌<◌, IsTrue, List, length}
use Rattle.disk_core.specs.declared.log_disk.LogDisk as logs
use Rattle.disk_core.specs.declared.page_disk.PageDisk as disks
use Rattle.disk_core.specs.Images.{LeavesOnly}
use Rattle.notes.specs.Lists.{at}
use Rattle.tx_events.specs.declared.record.Rec.{Rec}
use Rattle.slru_bank.specs.Calls.{CrashKeeps}
use Rattle.wal_core.specs.declared.wal_log.WalLog.{WalLog}
use Rattle.wal_core.specs.Kept.{HasFlushed}
use Rattle.wal_core.specs.LogViews.{KeepsAll, log_disk, log_first, log_flushed}
use Rattle.tx_core.specs.declared.entry.Entry.{Entry}
use Rattle.tx_core.specs.declared.entry.Start.{Start}
use Rattle.engine_parts.specs.declared.part.Part.{Part}
use Rattle.engine_parts.specs.declared.part.Part.TheVariants as parts
use Rattle.engine_parts.specs.Parts.{PartStands}

-- A crash at each moment from the one value of a log to the other leaves all records that were flushed before, and others
-- of the log or not, from one on that isn't past the first record of the later value.
abbrev pub LogMoments : {D : Type 0} → {g : logs.Ghosts D} → WalLog D g → WalLog D g → Type 0
LogMoments {g = g} found left =
    IsTrue g.tells → (first : ℕ) (all : List Rec) → KeepsAll first all g.images found
    → LeavesOnly g.moment g.left_at (log_disk found) (log_disk left) (HasFlushed first all (log_first left) (log_flushed found))

module _ {L P : Type 0} {l : logs.Ghosts L} {p : disks.Ghosts P} where
  -- So it leaves what lies behind a lock: of a bank each byte as the volume had it or as the page had it (`CrashKeeps`).
  abbrev pub PartMoments : Part L P l p → Part L P l p → Type 0
  PartMoments (parts.Log found) (parts.Log left) = LogMoments found.value left.value
  PartMoments (parts.Xact found) (parts.Xact left) = CrashKeeps found.value left.value
  PartMoments (parts.Subtrans found) (parts.Subtrans left) = CrashKeeps found.value left.value
  PartMoments (parts.Offsets found) (parts.Offsets left) = CrashKeeps found.value left.value
  PartMoments (parts.Members found) (parts.Members left) = CrashKeeps found.value left.value
  PartMoments found left = ⊥

-- A section found a part behind its lock that stood for the list there, and left one that stands for what the list became;
-- at each moment from the one to the other a crash leaves the volume so.
pub record AsksVolume {L P : Type 0} (l : logs.Ghosts L) (p : disks.Ghosts P) (start : Start) (lock : ℕ)
    (before after : List (List Entry)) : Type 0 where
  pub there : lock < length before
  pub found : Part L P l p
  pub left : Part L P l p
  pub stood : PartStands start lock found (at before lock)
  pub stands : PartStands start lock left (at after lock)
  pub moments : PartMoments found left
