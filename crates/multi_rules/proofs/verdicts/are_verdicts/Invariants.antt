use Rattle.multi_rules.proofs.verdicts.are_verdicts.Given as goal

abbrev pub ghost-answers : goal.ghost-answers
ghost-answers g a = g.of
