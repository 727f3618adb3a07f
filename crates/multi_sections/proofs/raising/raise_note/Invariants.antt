use Rattle.tx_events.specs.declared.multi.MultiEvent.TheVariants as events
use Rattle.multi_sections.proofs.raising.raise_note.Given as goal

abbrev pub ghost-by : goal.ghost-by
ghost-by a = events.Raise a._about.now.0 a._about.now.1 a._about.now.2
