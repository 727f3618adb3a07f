use Rattle.wal_core.specs.LogViews.{log_disk}
use Rattle.host_sections.specs.HostEntries.{forget_fault_by}
use Rattle.host_sections.proofs.log.forget_fault_note.Given as goal

abbrev pub ghost-by : goal.ghost-by
ghost-by g a = forget_fault_by a._about.now.0.0 a._about.now.0.1 (g.L.LogDisk.faults (log_disk a._about.now.1.now))
