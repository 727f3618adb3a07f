use Rattle.std.proofs.Common.{ℕ, ◌<◌, ◌≤◌, ◌^◌, length, refl, subst, arith}
use Rattle.wal_core.proofs.Counts.{past_far}
use Rattle.wal_core.proofs.counters.past_all.Goals as goal

pub returns-in_err-past-clause-none : goal.returns-in_err-past-clause-none
returns-in_err-past-clause-none c none =
    let lt : c.loop-id.id-index < length c.args.ids.now = omega arith in
    subst (λ (n : ℕ). 2 ^ 63 < n) c.loop-id.invariant (past_far c.loop-id.next c.args.ids.now c.loop-id.id-index c.id-item.result lt (subst (λ (x : ℕ). 2 ^ 63 ≤ x) c.id-item.is (c.in_err-past.ensures.none refl)))
