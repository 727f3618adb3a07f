use Rattle.std.proofs.Common.{◌≡◌, ◌+◌, ◌≤◌, ◌++◌, map, Some, vec_len, vec_capacity}
use Rattle.std.specs.Prelude.{reverse}
use Rattle.hall.proofs.parts.wrap.Given as goal

abbrev pub invariant-loop-value : goal.invariant-loop-value
invariant-loop-value g l = (map (λ h. h.value) l.slots.items ++ map Some (reverse l.values.items) ≡ map Some (reverse l.initial.values.items)) × (vec_len l.slots + vec_len l.values ≤ vec_capacity l.slots) × (vec_capacity l.values ≡ vec_capacity l.initial.values)

abbrev pub decreases-loop-value : goal.decreases-loop-value
decreases-loop-value g l = vec_len l.values
