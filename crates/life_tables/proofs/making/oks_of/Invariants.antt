use Rattle.std.proofs.Common.{◌≡◌, ℕ, false, get_or, map, take}
use Rattle.life_tables.proofs.making.oks_of.Given as goal

abbrev pub invariant-loop-place : goal.invariant-loop-place
invariant-loop-place l = l.oks.items ≡ map (λ (n : ℕ). get_or l.gave n false) (take l.place l.own.numbers)
