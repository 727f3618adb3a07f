use Rattle.multi_rules.proofs.verdicts.tells_recorded.Given as goal

abbrev pub ghost-tells_at_home : goal.ghost-tells_at_home
ghost-tells_at_home g a = g.of
