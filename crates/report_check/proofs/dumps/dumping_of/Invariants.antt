use Rattle.report_check.proofs.dumps.dumping_of.Given as goal

abbrev pub ghost-gens_if : goal.ghost-gens_if
ghost-gens_if g a = g.j
