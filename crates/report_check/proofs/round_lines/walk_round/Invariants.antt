use Rattle.std.proofs.Common.{[], ◌++◌, take}
use Rattle.std.specs.List.{AllByRecursion}
use Rattle.tx_model.specs.Rounds.{lines_in}
use Rattle.report_law.specs.ReportLines.{IsLawfulAt, command_lines}
use Rattle.report_check.specs.Passing.{IsPassed, lines_before}
use Rattle.report_check.proofs.round_lines.walk_round.Given as goal

abbrev pub ghost-round_at : goal.ghost-round_at
ghost-round_at g a = record { j = g.of.j; rounds = lines_before g.of; lines = lines_in g.of.step }

abbrev pub ghost-walk_line : goal.ghost-walk_line
ghost-walk_line g a = record { j = g.of.j; round = g.of.round; step = g.of.step; place = a.place }

abbrev pub invariant-loop-place : goal.invariant-loop-place
invariant-loop-place g l = record {
  lawful : AllByRecursion IsLawfulAt (command_lines g.of.j (lines_before g.of) (lines_in g.of.step) [] (take l.place (lines_in g.of.step)));
  passed : IsPassed g.of.j (lines_before g.of ++ take l.place (lines_in g.of.step)) l.passed;
}
