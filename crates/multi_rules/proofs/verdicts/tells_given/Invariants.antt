use Rattle.multi_rules.proofs.verdicts.tells_given.Given as goal

abbrev pub ghost-tells : goal.ghost-tells
ghost-tells g a = g.of
