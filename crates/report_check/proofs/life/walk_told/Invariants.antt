use Rattle.report_check.proofs.life.walk_told.Given as goal

abbrev pub ghost-walk_events : goal.ghost-walk_events
ghost-walk_events g a = g.j
