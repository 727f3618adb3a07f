use Rattle.std.proofs.Common.{rules, subst, sym}
use Rattle.replay_multis.specs.declared.offsets.OffsetSpan.{OffsetSpan}
use Rattle.replay_multis.specs.declared.redo_members.MemberSpan.{MemberSpan}
use Rattle.replay_multis.specs.Named.{AreMembersBelow, AreMultisNear}
use Rattle.replay_core.proofs.StoreRows.{members_failed, offsets_failed, states_failed, with_parents}
use Rattle.replay_core.proofs.pages.restore_pages.Goals as goal

pub restore_all_offsets-requires-clause-near : goal.restore_all_offsets-requires-clause-near
restore_all_offsets-requires-clause-near g c = subst (λ (s : OffsetSpan). AreMultisNear s.oldest c.args.recs.now) (sym c.offset_span-offsets.ensures) c.requires.multis.near

pub restore_all_members-requires-clause-below : goal.restore_all_members-requires-clause-below
restore_all_members-requires-clause-below g c = subst (λ (s : MemberSpan). AreMembersBelow s.next c.args.recs.now) (sym c.member_span-members.ensures) c.requires.multis.below

pub returns-in_err-restore_all_states : goal.returns-in_err-restore_all_states
returns-in_err-restore_all_states g c =
    let all = states_failed g.P.PageDisk c.args.recs.now c.args.base.now c.args.volumes.now (λ d x told left. g.met.P.PageDisk.only_now d x told left) c.restore_all_states.new.volumes _ c.in_err-restore_all_states.ensures in
    search (rules, all)

pub returns-in_err-restore_all_offsets : goal.returns-in_err-restore_all_offsets
returns-in_err-restore_all_offsets g c =
    let two = rw c.offset_span-offsets.ensures at c.in_err-restore_all_offsets.ensures in
    let all = offsets_failed g.P.PageDisk c.args.recs.now c.args.base.now c.args.volumes.now (λ d x told left. g.met.P.PageDisk.only_now d x told left) c.restore_all_states.new.volumes c.restore_all_offsets.new.volumes _ c.in_ok-restore_all_states.ensures two in
    search (rules, all)

pub returns-in_err-restore_all_members : goal.returns-in_err-restore_all_members
returns-in_err-restore_all_members g c =
    let two = rw c.offset_span-offsets.ensures at c.in_ok-restore_all_offsets.ensures in
    let three = rw c.member_span-members.ensures at c.in_err-restore_all_members.ensures in
    let all = members_failed g.P.PageDisk c.args.recs.now c.args.base.now c.args.volumes.now (λ d x told left. g.met.P.PageDisk.only_now d x told left) c.restore_all_states.new.volumes c.restore_all_offsets.new.volumes c.restore_all_members.new.volumes _ c.in_ok-restore_all_states.ensures two three in
    search (rules, all)

pub returns : goal.returns
returns g c =
    let two = rw c.offset_span-offsets.ensures at c.in_ok-restore_all_offsets.ensures in
    let three = rw c.member_span-members.ensures at c.in_ok-restore_all_members.ensures in
    with_parents g.P.PageDisk c.args.recs.now c.args.base.now c.args.volumes.now (λ d x told left. g.met.P.PageDisk.only_now d x told left) c.restore_all_states.new.volumes c.restore_all_offsets.new.volumes c.restore_all_members.new.volumes c.empty_all.new.volumes c.empty_all.result c.in_ok-restore_all_states.ensures two three c.empty_all.ensures
