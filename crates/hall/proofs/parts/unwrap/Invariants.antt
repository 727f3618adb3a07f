use Rattle.std.proofs.Common.{◌≡◌, ◌+◌, ◌≤◌, ◌++◌, map, All, IsSome, Some, vec_len, vec_capacity}
use Rattle.hall.proofs.parts.unwrap.Given as goal

abbrev pub invariant-loop-slots : goal.invariant-loop-slots
invariant-loop-slots g l = (map Some l.values.items ++ map (λ h. h.value) l.slots.items ≡ map (λ h. h.value) l.initial.slots.items) × (vec_len l.values + vec_len l.slots ≤ vec_capacity l.values) × All (λ h. IsSome h.value) l.slots.items

abbrev pub decreases-loop-slots : goal.decreases-loop-slots
decreases-loop-slots g l = vec_len l.slots
