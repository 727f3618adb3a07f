use Rattle.tx_core.specs.declared.entry.Kind.TheVariants as kinds
use Rattle.engine_parts.proofs.quiet.look_note.Given as goal

abbrev pub ghost-by : goal.ghost-by
ghost-by a = record { by = a._about.now; kind = kinds.Look }
