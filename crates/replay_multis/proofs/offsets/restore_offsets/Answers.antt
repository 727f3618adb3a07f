use Rattle.replay_multis.specs.Named.{IsOffsetByte}
use Rattle.replay_multis.specs.Restore.{IsPastMulti, MayBecome}
use Rattle.replay_multis.proofs.Emptying.{left_then, no_offset, restored_empty}
use Rattle.replay_multis.proofs.offsets.restore_offsets.Goals as goal

pub returns-in-Ok-true-clause-shows : goal.returns-in-Ok-true-clause-shows
returns-in-Ok-true-clause-shows g c told =
    let s = c.args.span.now in let e = c.in-Ok-true.ensures in
    restored_empty (IsOffsetByte c.args.share.now s.oldest c.args.recs.now) (IsPastMulti s.from) (IsPastMulti s.next) g.P.PageDisk c.args.disk c.rests_empty.new.disk
    (c.rests_empty.ensures.same told) (no_offset c.args.share.now s.oldest c.args.recs.now (e.none c.in-Ok-true.field-0-test)) (e.empty told c.in-Ok-true.field-0-test)

pub returns-in-Ok-false-clause-moments : goal.returns-in-Ok-false-clause-moments
returns-in-Ok-false-clause-moments g c told =
    let s = c.args.span.now in
    left_then g.P.PageDisk (MayBecome (IsOffsetByte c.args.share.now s.oldest c.args.recs.now) (IsPastMulti s.from) (IsPastMulti s.next)) c.args.disk c.rests_empty.new.disk
    (c.rests_empty.ensures.crash told) c.restore_present.result.0 (c.rests_empty.ensures.same told) (c.restore_present.ensures.moments told)
