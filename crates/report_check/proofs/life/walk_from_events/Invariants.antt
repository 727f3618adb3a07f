use Rattle.report_check.proofs.life.walk_from_events.Given as goal

abbrev pub ghost-walk_told : goal.ghost-walk_told
ghost-walk_told g a = g.j

abbrev pub ghost-walk_from_multis : goal.ghost-walk_from_multis
ghost-walk_from_multis g a = record { j = g.j; known = a.known }
