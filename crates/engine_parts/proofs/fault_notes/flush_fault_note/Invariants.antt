use Rattle.wal_core.specs.LogViews.{log_disk}
use Rattle.engine_parts.specs.Faults.{flush_fault_by}
use Rattle.engine_parts.proofs.fault_notes.flush_fault_note.Given as goal

abbrev pub ghost-by : goal.ghost-by
ghost-by g a = flush_fault_by a._about.now.0 (g.L.LogDisk.faults (log_disk a._about.now.1.now))
