use Rattle.tx_events.specs.declared.multi.MultiEvent.TheVariants as events
use Rattle.multi_sections.proofs.taking.gen_note.Given as goal

abbrev pub ghost-by : goal.ghost-by
ghost-by a = events.Gen a._about.now.0 a._about.now.1.now.multi a._about.now.1.now.offset a._about.now.2.now
