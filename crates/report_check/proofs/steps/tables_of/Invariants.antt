use Rattle.report_check.proofs.steps.tables_of.Given as goal

abbrev pub ghost-column_of : goal.ghost-column_of
ghost-column_of g a = g.j

abbrev pub ghost-dumping_of : goal.ghost-dumping_of
ghost-dumping_of g a = g.j
