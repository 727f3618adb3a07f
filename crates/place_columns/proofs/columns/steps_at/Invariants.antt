use Rattle.std.proofs.Common.{◌≡◌, take, map}
use Rattle.place_columns.specs.Lined.{step_at}
use Rattle.place_columns.proofs.columns.steps_at.Given as goal

abbrev pub invariant-loop-number : goal.invariant-loop-number
invariant-loop-number l = l.at.items ≡ map (step_at l.steps) (take l.number-index l.numbers)
