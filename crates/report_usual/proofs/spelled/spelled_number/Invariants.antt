use Rattle.std.proofs.Common.{◌≡◌, ◌++◌, ◌≤◌, length}
use Rattle.std.specs.Fmt.{decimal}
use Rattle.report_usual.proofs.spelled.spelled_number.Given as goal

abbrev pub invariant-loop-digit : goal.invariant-loop-digit
invariant-loop-digit l = record {
  text : l.bytes ≡ decimal l.number ++ l.rest;
  some : 1 ≤ l.number;
}

abbrev pub decreases-loop-digit : goal.decreases-loop-digit
decreases-loop-digit l = length l.rest
