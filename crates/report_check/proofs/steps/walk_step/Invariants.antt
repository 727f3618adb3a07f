use Rattle.report_check.specs.Stepping.{noting_at}
use Rattle.report_check.proofs.steps.walk_step.Given as goal

abbrev pub ghost-here_of : goal.ghost-here_of
ghost-here_of g a = g.of

abbrev pub ghost-walk_step_lines : goal.ghost-walk_step_lines
ghost-walk_step_lines g a = g.of

abbrev pub ghost-pass_step : goal.ghost-pass_step
ghost-pass_step g a = noting_at g.of
