use Rattle.tx_core.specs.declared.entry.Kind.TheVariants as kinds
use Rattle.tx_core.specs.Laws.{all_set}
use Rattle.bank_sections.proofs.page_sets.set_note.Given as goal

abbrev pub ghost-by : goal.ghost-by
ghost-by a = record { by = a._about.now.0; kind = kinds.Set (all_set a._about.now.0 a._about.now.2 a._about.now.1.now) }
