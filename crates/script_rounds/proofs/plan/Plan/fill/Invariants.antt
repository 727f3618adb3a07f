use Rattle.std.proofs.Common.{◌≡◌, length, take}
use Rattle.script_rounds.specs.Plans.{IsPlanOf}
use Rattle.script_rounds.proofs.plan.Plan.fill.Given as goal

abbrev pub invariant-loop-place : goal.invariant-loop-place
invariant-loop-place l = IsPlanOf l.round (take l.place l.round) l.self × (length l.self.places.items ≡ length l.fn.self.places.items)
