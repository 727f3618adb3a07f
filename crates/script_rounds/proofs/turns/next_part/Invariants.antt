use Rattle.std.proofs.Common.{None, take, ◌≡◌}
use Rattle.std.specs.List.{All}
use Rattle.session_lang.specs.Rounds.{crash_in}
use Rattle.script_rounds.proofs.turns.next_part.Given as goal

abbrev pub invariant-loop-i : goal.invariant-loop-i
invariant-loop-i l = All (λ item. crash_in item ≡ None) (take l.i l.items)
