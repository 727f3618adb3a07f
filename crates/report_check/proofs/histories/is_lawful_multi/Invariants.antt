use Rattle.report_check.proofs.histories.is_lawful_multi.Given as goal

abbrev pub ghost-is_told_multi_at : goal.ghost-is_told_multi_at
ghost-is_told_multi_at g a = g.j

abbrev pub ghost-is_its_multi : goal.ghost-is_its_multi
ghost-is_its_multi g a = g.j
