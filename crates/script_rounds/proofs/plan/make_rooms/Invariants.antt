use Rattle.std.proofs.Common.{◌≡◌}
use Rattle.script_rounds.proofs.plan.make_rooms.Given as goal

abbrev pub invariant-loop-session : goal.invariant-loop-session
invariant-loop-session l = l.places.items ≡ l.fn.places.items
