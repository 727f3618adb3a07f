use Rattle.std.proofs.Common.{◌≡◌, ℕ, None, get_or}
use Rattle.near_map.proofs.NearMap.new.Given as goal

abbrev pub invariant-loop-n : goal.invariant-loop-n
invariant-loop-n g l = (k : ℕ) → get_or l.near.items k None ≡ None
