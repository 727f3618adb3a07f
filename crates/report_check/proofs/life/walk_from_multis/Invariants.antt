use Rattle.report_check.proofs.life.walk_from_multis.Given as goal

abbrev pub ghost-walk_multis : goal.ghost-walk_multis
ghost-walk_multis g a = g.at.j

abbrev pub ghost-walk_log : goal.ghost-walk_log
ghost-walk_log g a = g.at
