use Rattle.replay_multis.specs.Named.{IsMemberByte}
use Rattle.replay_multis.specs.Restore.{IsPastOffset, MayBecome}
use Rattle.replay_multis.proofs.Emptying.{left_then, no_member, restored_empty}
use Rattle.replay_multis.proofs.members.restore_members.Goals as goal

pub returns-in-Ok-true-clause-shows : goal.returns-in-Ok-true-clause-shows
returns-in-Ok-true-clause-shows g c told =
    let s = c.args.span.now in let e = c.in-Ok-true.ensures in
    restored_empty (IsMemberByte c.args.share.now s.oldest s.oldest_offset c.args.recs.now) (IsPastOffset s.from) (IsPastOffset s.next) g.P.PageDisk c.args.disk c.rests_empty.new.disk
    (c.rests_empty.ensures.same told) (λ q i b h. no_member c.args.share.now s.oldest c.args.recs.now (e.none c.in-Ok-true.field-0-test) q i b s.oldest_offset h) (e.empty told c.in-Ok-true.field-0-test)

pub returns-in-Ok-false-clause-moments : goal.returns-in-Ok-false-clause-moments
returns-in-Ok-false-clause-moments g c told =
    let s = c.args.span.now in
    left_then g.P.PageDisk (MayBecome (IsMemberByte c.args.share.now s.oldest s.oldest_offset c.args.recs.now) (IsPastOffset s.from) (IsPastOffset s.next)) c.args.disk c.rests_empty.new.disk
    (c.rests_empty.ensures.crash told) c.restore_present.result.0 (c.rests_empty.ensures.same told) (c.restore_present.ensures.moments told)
