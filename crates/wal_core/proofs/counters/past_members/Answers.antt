use Rattle.std.proofs.Common.{ℕ, ◌<◌, ◌≤◌, ◌^◌, length, refl, subst, arith}
use Rattle.tx_events.specs.declared.multi.Member.{Member}
use Rattle.wal_core.proofs.Counts.{far_member}
use Rattle.wal_core.proofs.counters.past_members.Goals as goal

pub returns-in_err-past-clause-none : goal.returns-in_err-past-clause-none
returns-in_err-past-clause-none c none =
    let lt : c.loop-member.member-index < length c.args.members.now = omega arith in
    subst (λ (n : ℕ). 2 ^ 63 < n) c.loop-member.invariant (far_member c.loop-member.next c.args.members.now c.loop-member.member-index c.member-item.result lt (subst (λ (x : Member). 2 ^ 63 ≤ x.id) c.member-item.is (c.in_err-past.ensures.none refl)))
