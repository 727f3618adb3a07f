use Rattle.tx_events.specs.declared.event.Event.TheVariants as events
use Rattle.tx_core.specs.declared.entry.Kind.TheVariants as kinds
use Rattle.proc_sections.proofs.announcing.oldest_note.Given as goal

abbrev pub ghost-by : goal.ghost-by
ghost-by a = record { by = a._about.now.0; kind = kinds.Event (events.Oldest a._about.now.0 a._about.now.1) }
