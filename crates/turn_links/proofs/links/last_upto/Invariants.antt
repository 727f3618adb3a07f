use Rattle.std.proofs.Common.{◌≤◌}
use Rattle.turn_links.specs.Links.{AreSkipped}
use Rattle.turn_links.proofs.links.last_upto.Given as goal

abbrev pub invariant-loop-back : goal.invariant-loop-back
invariant-loop-back l = record {
  within : l.back ≤ l.end;
  behind : AreSkipped l.own l.command l.back l.end;
}

abbrev pub decreases-loop-back : goal.decreases-loop-back
decreases-loop-back l = l.back
