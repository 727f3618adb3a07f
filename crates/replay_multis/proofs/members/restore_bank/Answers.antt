use Rattle.std.proofs.Common.{rules}
use Rattle.tx_events.specs.PageOrder.{Offsets}
use Rattle.slru_bank.specs.Calls.{pages_of}
use Rattle.store_pages.specs.Layouts.{member_page_of, member_place_of}
use Rattle.replay_multis.specs.Named.{IsMemberByte}
use Rattle.replay_multis.specs.Restore.{IsCleared, IsPastOffset, MayBecome}
use Rattle.replay_multis.proofs.Restoring.{first_may, flushed, last_failed, redo_failed, restore_failed, zero_behind}
use Rattle.replay_multis.proofs.Stepping.{steps_clear, steps_flush, steps_wider}
use Rattle.replay_multis.proofs.members.restore_bank.Goals as goal

pub returns-in_err-clear_members : goal.returns-in_err-clear_members
returns-in_err-clear_members g c =
    let s = c.args.span.now in let N = IsMemberByte c.args.share.now s.oldest s.oldest_offset c.args.recs.now in let e = c.in_err-clear_members.ensures in
    let all = restore_failed N (IsPastOffset s.from) (IsPastOffset s.next) c.args.bank.now c.clear_members.new.bank _
    (steps_wider (IsCleared (IsPastOffset s.from)) (MayBecome N (IsPastOffset s.from) (IsPastOffset s.next)) c.args.bank.now c.clear_members.new.bank _ (first_may N (IsPastOffset s.from) (IsPastOffset s.next))
    (steps_clear (member_page_of s.from) (member_place_of s.from) c.args.bank.now c.clear_members.new.bank _ e.ok e.bank)) in
    search (rules, all)

pub returns-in_err-redo_members : goal.returns-in_err-redo_members
returns-in_err-redo_members g c =
    let s = c.args.span.now in let N = IsMemberByte c.args.share.now s.oldest s.oldest_offset c.args.recs.now in let e = c.in_ok-clear_members.ensures in
    let all = redo_failed N (IsPastOffset s.from) (IsPastOffset s.next) c.args.bank.now c.clear_members.new.bank c.redo_members.new.bank _
    (steps_clear (member_page_of s.from) (member_place_of s.from) c.args.bank.now c.clear_members.new.bank _ e.ok e.bank) c.in_err-redo_members.ensures in
    search (rules, all)

pub returns-in_err-clear_members-2 : goal.returns-in_err-clear_members-2
returns-in_err-clear_members-2 g c =
    let s = c.args.span.now in let N = IsMemberByte c.args.share.now s.oldest s.oldest_offset c.args.recs.now in let e = c.in_ok-clear_members.ensures in let f = c.in_err-clear_members-2.ensures in
    let all = last_failed N (IsPastOffset s.from) (IsPastOffset s.next) c.args.bank.now c.clear_members.new.bank c.redo_members.new.bank c.clear_members-2.new.bank
    (steps_clear (member_page_of s.from) (member_place_of s.from) c.args.bank.now c.clear_members.new.bank _ e.ok e.bank) c.in_ok-redo_members.ensures _
    (steps_clear (member_page_of s.next) (member_place_of s.next) c.redo_members.new.bank c.clear_members-2.new.bank _ f.ok f.bank) in
    search (rules, all)

pub returns : goal.returns
returns g c =
    let s = c.args.span.now in let N = IsMemberByte c.args.share.now s.oldest s.oldest_offset c.args.recs.now in let e = c.in_ok-clear_members.ensures in let f = c.in_ok-clear_members-2.ensures in
    let b0 = c.args.bank.now in let b1 = c.clear_members.new.bank in let b2 = c.redo_members.new.bank in let b3 = c.clear_members-2.new.bank in let b4 = c.flush_all.new.self in
    flushed N (IsPastOffset s.from) (IsPastOffset s.next) b0 b1 b2 b3
    (steps_clear (member_page_of s.from) (member_place_of s.from) b0 b1 _ e.ok e.bank) c.in_ok-redo_members.ensures b4 c.flush_all.result
    (steps_clear (member_page_of s.next) (member_place_of s.next) b2 b3 _ f.ok f.bank)
    (steps_flush (MayBecome N (IsPastOffset s.from) (IsPastOffset s.next)) b3 b4 c.flush_all.result c.flush_all.ensures.cutoff c.flush_all.ensures.same c.flush_all.ensures.bank c.flush_all.ensures.crash)
    (λ told. zero_behind Offsets 1636 (member_page_of s.from) (member_place_of s.from) (pages_of b0) (pages_of b1) (e.ok told))
    (λ told. zero_behind Offsets 1636 (member_page_of s.next) (member_place_of s.next) (pages_of b2) (pages_of b3) (f.ok told))
    c.flush_all.ensures.same c.flush_all.ensures.durable
