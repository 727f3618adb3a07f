use Rattle.std.proofs.Common.{◌-◌, ◌<◌, ◌≤◌, length}
use Rattle.multi_rules.specs.Shown.{MeanTheSame}
use Rattle.multi_rules.proofs.seen.same_until.Given as goal

abbrev pub invariant-loop-same : goal.invariant-loop-same
invariant-loop-same l = record {
  forward : l.from < l.same;
  order : l.same ≤ l.end;
  within : l.end ≤ length l.taken;
  mean : MeanTheSame l.taken l.x.number l.from l.same;
}

abbrev pub decreases-loop-same : goal.decreases-loop-same
decreases-loop-same l = l.end - l.same
