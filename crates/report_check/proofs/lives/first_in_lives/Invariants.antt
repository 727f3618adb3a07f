use Rattle.std.proofs.Common.{◌≡◌, [], length, take}
use Rattle.std.specs.List.{AllByRecursion}
use Rattle.report_law.specs.ReportLines.{IsLawfulAt, lives_lines}
use Rattle.report_check.specs.Keeping.{IsLeftBefore}
use Rattle.report_check.proofs.lives.first_in_lives.Given as goal

abbrev pub invariant-loop-place : goal.invariant-loop-place
invariant-loop-place l = record {
  lawful : AllByRecursion IsLawfulAt (lives_lines [] (take l.place l.lives));
  counted : l.count ≡ length (lives_lines [] (take l.place l.lives));
  left : IsLeftBefore (take l.place l.lives) l.kept;
}
