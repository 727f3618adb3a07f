use Rattle.std.proofs.Common.{◌≡◌, length}
use Rattle.script_rounds.specs.Plans.{IsListed}
use Rattle.script_rounds.proofs.plan.Plan.clear.Given as goal

abbrev pub invariant-loop-session : goal.invariant-loop-session
invariant-loop-session l = IsListed l.self × (length l.self.places.items ≡ length l.fn.self.places.items)

abbrev pub decreases-loop-session : goal.decreases-loop-session
decreases-loop-session l = goal.left-loop-session l
