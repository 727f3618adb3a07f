use Rattle.std.proofs.Common.{◌≡◌, ◌≤◌, ◌-◌, length, drop}
use Rattle.std.specs.Prelude.{slice_get}
use Rattle.slru_bank.specs.Plan.{runs}
use Rattle.slru_bank.proofs.plan.step_of_run.Given as goal

abbrev pub invariant-loop-first : goal.invariant-loop-first
invariant-loop-first l = record {
  within : l.first ≤ length l.subs;
  same : slice_get (runs l.first (drop l.first l.subs)) l.left ≡ slice_get (runs l.from (drop l.from l.subs)) l.k;
}

abbrev pub decreases-loop-first : goal.decreases-loop-first
decreases-loop-first l = length l.subs - l.first
