use Rattle.std.proofs.Common.{◌≡◌, replicate}
use Rattle.report_check.proofs.histories.none_latest.Given as goal

abbrev pub invariant-loop-n : goal.invariant-loop-n
invariant-loop-n l = l.last.items ≡ replicate l._n 0
