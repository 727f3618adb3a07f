use Rattle.bank_sections.specs.Cuts.{cut_too}
use Rattle.bank_sections.proofs.cut_entries.with_cut.Given as goal

abbrev pub ghost-by : goal.ghost-by
ghost-by a = cut_too a._about.now.1 a._about.now.0.value
