use Rattle.host_sections.specs.HostEntries.{append_by}
use Rattle.host_sections.proofs.log.append_note.Given as goal

abbrev pub ghost-by : goal.ghost-by
ghost-by a = append_by a._about.now.0 a._about.now.1.now
