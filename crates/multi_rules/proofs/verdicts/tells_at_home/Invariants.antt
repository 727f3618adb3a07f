use Rattle.multi_rules.proofs.verdicts.tells_at_home.Given as goal

abbrev pub ghost-tells : goal.ghost-tells
ghost-tells g a = g.of
