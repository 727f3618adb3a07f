use Rattle.std.proofs.Common.{◌≡◌, ◌≤◌, ◌+◌, ◌-◌, length, drop}
use Rattle.slru_bank.specs.Plan.{runs}
use Rattle.slru_bank.proofs.plan.count_runs.Given as goal

abbrev pub invariant-loop-first : goal.invariant-loop-first
invariant-loop-first l = record {
  within : l.first ≤ length l.subs;
  few : l.count ≤ l.first;
  counted : l.count + length (runs l.first (drop l.first l.subs)) ≡ length (runs l.from (drop l.from l.subs));
}

abbrev pub decreases-loop-first : goal.decreases-loop-first
decreases-loop-first l = length l.subs - l.first
