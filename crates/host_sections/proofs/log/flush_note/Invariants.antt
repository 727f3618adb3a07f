use Rattle.host_sections.specs.HostEntries.{flush_by}
use Rattle.host_sections.proofs.log.flush_note.Given as goal

abbrev pub ghost-by : goal.ghost-by
ghost-by a = flush_by a._about.now.0 a._about.now.1
