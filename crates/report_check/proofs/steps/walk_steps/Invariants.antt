use Rattle.std.proofs.Common.{◌≡◌, [], length, take}
use Rattle.std.specs.List.{AllByRecursion}
use Rattle.report_law.specs.ReportLines.{IsLawfulAt, steps_lines}
use Rattle.report_check.specs.Stepping.{IsSoFar, step_or}
use Rattle.report_check.proofs.steps.walk_steps.Given as goal

abbrev pub ghost-tables_of : goal.ghost-tables_of
ghost-tables_of g a = g.j

abbrev pub ghost-walk_step : goal.ghost-walk_step
ghost-walk_step g a = record { j = g.j; round = a.place; step = step_or g.j.steps a.place; multis = a.known.now.multi_places.events }

abbrev pub invariant-loop-place : goal.invariant-loop-place
invariant-loop-place g l = record {
  lawful : AllByRecursion IsLawfulAt (steps_lines g.j [] (take l.place g.j.steps));
  counted : l.count ≡ length (steps_lines g.j [] (take l.place g.j.steps));
  so_far : IsSoFar g.j (take l.place g.j.steps) l.known l.so_far;
}
