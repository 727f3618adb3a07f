use Rattle.report_check.proofs.life.walk_on.Given as goal

abbrev pub ghost-walk_from_events : goal.ghost-walk_from_events
ghost-walk_from_events g a = g.j
