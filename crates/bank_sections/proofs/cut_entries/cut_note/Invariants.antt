use Rattle.tx_core.specs.declared.entry.Kind.TheVariants as kinds
use Rattle.bank_sections.proofs.cut_entries.cut_note.Given as goal

abbrev pub ghost-by : goal.ghost-by
ghost-by a = record { by = a._about.now.0; kind = kinds.Cut a._about.now.1 }
