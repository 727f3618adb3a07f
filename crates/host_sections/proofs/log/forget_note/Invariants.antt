use Rattle.host_sections.specs.HostEntries.{forget_by}
use Rattle.host_sections.proofs.log.forget_note.Given as goal

abbrev pub ghost-by : goal.ghost-by
ghost-by a = forget_by a._about.now.0 a._about.now.1
