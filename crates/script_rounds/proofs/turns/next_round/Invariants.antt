use Rattle.std.proofs.Common.{◌≡◌, take, true}
use Rattle.std.specs.List.{All}
use Rattle.run_law.specs.Turns.{is_command}
use Rattle.script_rounds.proofs.turns.next_round.Given as goal

abbrev pub invariant-loop-i : goal.invariant-loop-i
invariant-loop-i l = All (λ item. is_command item ≡ true) (take l.i l.items)
