use Rattle.tx_events.specs.XactEnds.{end_event}
use Rattle.tx_core.specs.declared.entry.Kind.TheVariants as kinds
use Rattle.proc_sections.proofs.ending.end_transaction.Given as goal

abbrev pub ghost-by : goal.ghost-by
ghost-by g a = record { by = a._about.now.0; kind = kinds.Event (end_event a._about.now.2 a._about.now.0 a._about.now.1) }
