use Rattle.multi_rules.proofs.verdicts.tells.Given as goal

abbrev pub ghost-span_of_all : goal.ghost-span_of_all
ghost-span_of_all g a = g.of
