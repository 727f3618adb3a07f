use Rattle.report_check.proofs.told_multis.is_told_multi_at.Given as goal

abbrev pub ghost-is_told_in : goal.ghost-is_told_in
ghost-is_told_in g a = g.j
