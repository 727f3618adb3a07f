use Rattle.std.proofs.Common.{◌≡◌, ◌≤◌, vec_len, vec_capacity}
use Rattle.parts_bench.proofs.hall_turns.by_mutexes.Given as goal

abbrev pub invariant-loop : goal.invariant-loop
invariant-loop g l = (vec_len l.mutexes ≡ l.counter) × (l.plan.locks ≤ vec_capacity l.mutexes)

abbrev pub invariant-loop-number : goal.invariant-loop-number
invariant-loop-number g l = (vec_len l.numbers ≡ l.number) × (l.crew.sessions ≤ vec_capacity l.numbers)
