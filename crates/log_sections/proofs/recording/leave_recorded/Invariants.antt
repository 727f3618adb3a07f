use Rattle.tx_core.specs.declared.entry.Kind.TheVariants as kinds
use Rattle.log_sections.proofs.recording.leave_recorded.Given as goal

abbrev pub ghost-by : goal.ghost-by
ghost-by g a = record { by = a._about.now.0; kind = kinds.Append a._about.now.1.now }
