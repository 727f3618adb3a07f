use Rattle.multi_rules.proofs.verdicts.answers_at.Given as goal

abbrev pub ghost-tells_given : goal.ghost-tells_given
ghost-tells_given g a = g.of

abbrev pub ghost-tells_recorded : goal.ghost-tells_recorded
ghost-tells_recorded g a = g.of
