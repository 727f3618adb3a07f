use Rattle.std.proofs.Common.{◌≡◌, ℕ, length, true, false, get_or, replicate}
use Rattle.group_list.proofs.list.first_numbers.Given as goal

abbrev pub invariant-loop-i : goal.invariant-loop-i
invariant-loop-i l = (length l.numbers ≡ 64) × ((k : ℕ) → get_or l.numbers k false ≡ get_or (replicate l.i true) k false)
