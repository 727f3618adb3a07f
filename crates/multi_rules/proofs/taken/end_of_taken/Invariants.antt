use Rattle.std.proofs.Common.{◌≤◌}
use Rattle.multi_rules.specs.Snapped.{AreNoneTaken}
use Rattle.multi_rules.proofs.taken.end_of_taken.Given as goal

abbrev pub invariant-loop-end : goal.invariant-loop-end
invariant-loop-end l = record {
  within : l.end ≤ l.count;
  none : AreNoneTaken l.snaps l.own.numbers l.end l.count;
}

abbrev pub decreases-loop-end : goal.decreases-loop-end
decreases-loop-end l = l.end
