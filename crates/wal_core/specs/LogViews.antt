-- What the calls of a log speak of.
use Rattle.std.specs.Prelude.{ℕ, ◌+◌, List, length, drop, Option}
use Rattle.tx_events.specs.declared.record.Rec.{Rec}
use Rattle.tx_events.specs.declared.record.Counters.{Counters}
use Rattle.disk_core.specs.Volume.{Volume}
use Rattle.disk_core.specs.declared.log_disk.LogDisk.{Ghosts}
use Rattle.wal_core.specs.declared.checkpoint.LastCheckpoint.{LastCheckpoint}
use Rattle.wal_core.specs.Kept.{KeepsRecords}
use Rattle.wal_core.specs.declared.wal_log.WalLog.{WalLog}

module _ {D : Type 0} {g : Ghosts D} where
  abbrev pub log_disk : WalLog D g → D
  log_disk log = log.disk

  -- the records appended since the start
  abbrev pub log_recs : WalLog D g → List Rec
  log_recs log = log.recs

  -- those of them that aren't flushed
  abbrev pub log_pending : WalLog D g → List Rec
  log_pending log = drop log.flushed log.recs

  -- the number of the next record
  abbrev pub log_next : WalLog D g → ℕ
  log_next log = log.from + length log.recs

  -- the number of the first record that isn't flushed
  abbrev pub log_flushed : WalLog D g → ℕ
  log_flushed log = log.from + log.flushed

  -- the place of the next gate
  abbrev pub log_end : WalLog D g → ℕ
  log_end log = log.gate

  -- the counters after all records, if there is one
  abbrev pub log_counters : WalLog D g → Option Counters
  log_counters log = log.counters

  -- the flushed number at the failure that put the log down
  abbrev pub log_down : WalLog D g → Option ℕ
  log_down log = log.down

  -- the place from which on the log is kept
  abbrev pub log_start : WalLog D g → ℕ
  log_start log = log.start

  -- the last batch that is flushed, where it is a checkpoint alone with the counters of the log after it
  abbrev pub log_checkpoint : WalLog D g → Option LastCheckpoint
  log_checkpoint log = log.checkpoint

  -- the number that the first record of no image is past
  abbrev pub log_first : WalLog D g → ℕ
  log_first log = log.first

  -- The list is that of all records of the log, numbered from `first` on, and each crash leaves records of it from the
  -- first retained one on, which isn't past `log_first`, up to one that is at least the flushed number.
  abbrev pub KeepsAll : ℕ → List Rec → (D → Volume → Type 0) → WalLog D g → Type 0
  KeepsAll first all images log = KeepsRecords first all (log_recs log) (log_next log) (log_first log) (log_flushed log) (images log.disk)
