use Rattle.std.proofs.Common.{◌≡◌, ◌<◌, ℕ, length, false, get_or, ltb}
use Rattle.hall.proofs.names.Names.first.Given as goal

abbrev pub invariant-loop-name : goal.invariant-loop-name
invariant-loop-name l = (length l.held ≡ 65) × ((k : ℕ) → k < l.name → get_or l.held k false ≡ ltb k l.fn.passes)
