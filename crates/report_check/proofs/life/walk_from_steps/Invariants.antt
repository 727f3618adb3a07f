use Rattle.report_check.proofs.life.walk_from_steps.Given as goal

abbrev pub ghost-walk_steps : goal.ghost-walk_steps
ghost-walk_steps g a = g.j

abbrev pub ghost-walk_on : goal.ghost-walk_on
ghost-walk_on g a = g.j
