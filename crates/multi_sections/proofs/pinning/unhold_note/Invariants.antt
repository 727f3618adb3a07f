use Rattle.tx_events.specs.declared.multi.MultiEvent.TheVariants as events
use Rattle.multi_sections.proofs.pinning.unhold_note.Given as goal

abbrev pub ghost-by : goal.ghost-by
ghost-by a = events.Unhold a._about.now.0 a._about.now.1
