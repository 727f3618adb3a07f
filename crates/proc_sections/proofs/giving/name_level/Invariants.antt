use Rattle.tx_model.specs.CommandEvents.{giving}
use Rattle.tx_core.specs.declared.entry.Kind.TheVariants as kinds
use Rattle.proc_sections.proofs.giving.name_level.Given as goal

abbrev pub ghost-by : goal.ghost-by
ghost-by g a = record { by = a._about.now.0; kind = kinds.Event (giving a._about.now.0 a._about.now.2.now a._about.now.1) }
