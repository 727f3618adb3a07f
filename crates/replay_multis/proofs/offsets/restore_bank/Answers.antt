use Rattle.std.proofs.Common.{rules}
use Rattle.tx_events.specs.PageOrder.{Multis}
use Rattle.slru_bank.specs.Calls.{pages_of}
use Rattle.store_pages.specs.Layouts.{word_page_of, word_place_of}
use Rattle.replay_multis.specs.Named.{IsOffsetByte}
use Rattle.replay_multis.specs.Restore.{IsCleared, IsPastMulti, MayBecome}
use Rattle.replay_multis.proofs.Restoring.{first_may, flushed, last_failed, redo_failed, restore_failed, zero_behind}
use Rattle.replay_multis.proofs.Stepping.{steps_clear, steps_flush, steps_wider}
use Rattle.replay_multis.proofs.offsets.restore_bank.Goals as goal

pub returns-in_err-clear_offsets : goal.returns-in_err-clear_offsets
returns-in_err-clear_offsets g c =
    let s = c.args.span.now in let N = IsOffsetByte c.args.share.now s.oldest c.args.recs.now in let e = c.in_err-clear_offsets.ensures in
    let all = restore_failed N (IsPastMulti s.from) (IsPastMulti s.next) c.args.bank.now c.clear_offsets.new.bank _
    (steps_wider (IsCleared (IsPastMulti s.from)) (MayBecome N (IsPastMulti s.from) (IsPastMulti s.next)) c.args.bank.now c.clear_offsets.new.bank _ (first_may N (IsPastMulti s.from) (IsPastMulti s.next))
    (steps_clear (word_page_of s.from) (word_place_of s.from) c.args.bank.now c.clear_offsets.new.bank _ e.ok e.bank)) in
    search (rules, all)

pub returns-in_err-redo_offsets : goal.returns-in_err-redo_offsets
returns-in_err-redo_offsets g c =
    let s = c.args.span.now in let N = IsOffsetByte c.args.share.now s.oldest c.args.recs.now in let e = c.in_ok-clear_offsets.ensures in
    let all = redo_failed N (IsPastMulti s.from) (IsPastMulti s.next) c.args.bank.now c.clear_offsets.new.bank c.redo_offsets.new.bank _
    (steps_clear (word_page_of s.from) (word_place_of s.from) c.args.bank.now c.clear_offsets.new.bank _ e.ok e.bank) c.in_err-redo_offsets.ensures in
    search (rules, all)

pub returns-in_err-clear_offsets-2 : goal.returns-in_err-clear_offsets-2
returns-in_err-clear_offsets-2 g c =
    let s = c.args.span.now in let N = IsOffsetByte c.args.share.now s.oldest c.args.recs.now in let e = c.in_ok-clear_offsets.ensures in let f = c.in_err-clear_offsets-2.ensures in
    let all = last_failed N (IsPastMulti s.from) (IsPastMulti s.next) c.args.bank.now c.clear_offsets.new.bank c.redo_offsets.new.bank c.clear_offsets-2.new.bank
    (steps_clear (word_page_of s.from) (word_place_of s.from) c.args.bank.now c.clear_offsets.new.bank _ e.ok e.bank) c.in_ok-redo_offsets.ensures _
    (steps_clear (word_page_of s.next) (word_place_of s.next) c.redo_offsets.new.bank c.clear_offsets-2.new.bank _ f.ok f.bank) in
    search (rules, all)

pub returns : goal.returns
returns g c =
    let s = c.args.span.now in let N = IsOffsetByte c.args.share.now s.oldest c.args.recs.now in let e = c.in_ok-clear_offsets.ensures in let f = c.in_ok-clear_offsets-2.ensures in
    let b0 = c.args.bank.now in let b1 = c.clear_offsets.new.bank in let b2 = c.redo_offsets.new.bank in let b3 = c.clear_offsets-2.new.bank in let b4 = c.flush_all.new.self in
    flushed N (IsPastMulti s.from) (IsPastMulti s.next) b0 b1 b2 b3
    (steps_clear (word_page_of s.from) (word_place_of s.from) b0 b1 _ e.ok e.bank) c.in_ok-redo_offsets.ensures b4 c.flush_all.result
    (steps_clear (word_page_of s.next) (word_place_of s.next) b2 b3 _ f.ok f.bank)
    (steps_flush (MayBecome N (IsPastMulti s.from) (IsPastMulti s.next)) b3 b4 c.flush_all.result c.flush_all.ensures.cutoff c.flush_all.ensures.same c.flush_all.ensures.bank c.flush_all.ensures.crash)
    (λ told. zero_behind Multis 2048 (word_page_of s.from) (word_place_of s.from) (pages_of b0) (pages_of b1) (e.ok told))
    (λ told. zero_behind Multis 2048 (word_page_of s.next) (word_place_of s.next) (pages_of b2) (pages_of b3) (f.ok told))
    c.flush_all.ensures.same c.flush_all.ensures.durable
