use Rattle.std.proofs.Common.{◌≡◌, ◌<◌, length, false, sym, ◌∙◌, arith, subst}
use Rattle.tx_events.specs.declared.multi.Member.{Member}
use Rattle.wal_records.specs.Lawful.{is_id}
use Rattle.wal_records.proofs.LawfulTests.{not_all_ids}
use Rattle.wal_records.proofs.lawful.are_full_ids.Goals as goal

pub returns-then-not-is_full_id : goal.returns-then-not-is_full_id
returns-then-not-is_full_id c =
    let lt : c.loop-member.member-index < length c.args.members.now = omega arith in
    sym (not_all_ids c.args.members.now c.loop-member.member-index c.member-item.result lt (subst (λ (m : Member). is_id m.id ≡ false) c.member-item.is (sym c.is_full_id.ensures ∙ c.if-not-is_full_id.true))) ∙ c.loop-member.invariant
