use Rattle.host_sections.specs.HostEntries.{sync_by}
use Rattle.host_sections.proofs.banks.sync_note.Given as goal

abbrev pub ghost-by : goal.ghost-by
ghost-by a = sync_by a._about.now
