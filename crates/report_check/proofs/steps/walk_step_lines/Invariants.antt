use Rattle.report_check.specs.Stepping.{steps_before}
use Rattle.report_check.proofs.steps.walk_step_lines.Given as goal

abbrev pub ghost-walk_round : goal.ghost-walk_round
ghost-walk_round g a = record { j = g.of.j; round = g.of.round; step = g.of.step }

abbrev pub ghost-is_lawful_there : goal.ghost-is_lawful_there
ghost-is_lawful_there g a = g.of

abbrev pub ghost-is_lawful_dump : goal.ghost-is_lawful_dump
ghost-is_lawful_dump g a = record { j = g.of.j; before = steps_before g.of }
