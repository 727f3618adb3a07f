use Rattle.tx_events.specs.declared.event.Event.TheVariants as events
use Rattle.tx_core.specs.declared.entry.Kind.TheVariants as kinds
use Rattle.xact_engine.proofs.snapshots.register.Given as goal

abbrev pub ghost-by : goal.ghost-by
ghost-by g a = record { by = a._about.now.0; kind = kinds.Event (events.Snap a._about.now.1.now a._about.now.0) }
