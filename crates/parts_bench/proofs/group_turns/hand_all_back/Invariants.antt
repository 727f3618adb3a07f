use Rattle.std.proofs.Common.{◌≡◌, ℕ, ◌≤◌, ◌<◌, length, get_or, Contains}
use Rattle.group_list.specs.Calls.{view, IsOf, IsSame}
use Rattle.parts_bench.specs.Turns.{JoinedMore}
use Rattle.parts_bench.proofs.group_turns.hand_all_back.Given as goal

abbrev pub invariant-loop-i : goal.invariant-loop-i
invariant-loop-i l = IsOf l.list l.member × IsSame l.initial.member l.member × ((view l.member).stage ≡ (view l.initial.member).stage) × JoinedMore 0 l.initial.member l.member
    × ((k : ℕ) → l.i ≤ k → k < length l.numbers → Contains (view l.member).owes (get_or l.numbers k 0))
