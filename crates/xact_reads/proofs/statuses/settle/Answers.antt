use Rattle.std.proofs.Common.{ap, arith, sym, ◌<◌, ◌≤◌, ◌∙◌}
use Rattle.std.proofs.lemmas.Bool.Decides.{nat_tests}
use Rattle.hall.specs.Calls.{view, start_of}
use Rattle.tx_model.specs.declared.reply.Status.TheVariants as statuses
use Rattle.tx_model.specs.Replies.{is_in_progress}
use Rattle.engine_parts.proofs.Stepping.{went_nowhere}
use Rattle.engine_parts.proofs.Unmoved.{at_same}
use Rattle.xact_reads.proofs.Standing.{ended_off, runs_here, stood, told_future, told_old, told_status, told_unread}
use Rattle.xact_reads.proofs.statuses.settle.Goals as goal

pub returns-then-lt-clause-allowed : goal.returns-then-lt-clause-allowed
returns-then-lt-clause-allowed g c h longer =
    let old = c.args.caller.now in
    let v = view old.pass in
    told_old (start_of c.args.hall.now) v v old.number old.session c.args.x c.args.asked h c.requires.ready.at c.requires.ready.at (went_nowhere old.number v.seen) c.requires.full c.requires.asked longer (g.P.PageDisk.tells)
    (grind (arith, nat_tests, c.if-lt.true, c.lt.ensures))

pub returns-then-ge-clause-allowed : goal.returns-then-ge-clause-allowed
returns-then-ge-clause-allowed g c h longer =
    let old = c.args.caller.now in
    let v = view old.pass in
    told_future (start_of c.args.hall.now) v v old.number old.session c.args.x c.args.asked h c.requires.ready.at c.requires.ready.at (went_nowhere old.number v.seen) c.requires.full c.requires.asked longer (g.P.PageDisk.tells)
    (grind (arith, nat_tests, c.if-ge.true, c.ge.ensures))

pub returns-then-asked-clause-allowed : goal.returns-then-asked-clause-allowed
returns-then-asked-clause-allowed g c h longer =
    let old = c.args.caller.now in
    let v = view old.pass in
    let start = start_of c.args.hall.now in
    let went = went_nowhere old.number v.seen in
    told_status start v v old.number old.session c.args.x c.args.asked h c.requires.ready.at c.requires.ready.at went c.requires.full c.requires.asked longer (g.P.PageDisk.tells) statuses.InProgress
    (grind (arith, nat_tests, c.if-lt.false, c.lt.ensures)) (grind (arith, nat_tests, c.if-ge.false, c.ge.ensures)) (sym c.if-asked.true)
    (λ _. runs_here start v v old.number old.session c.args.x c.args.asked h c.requires.ready.at c.requires.ready.at went c.requires.full c.requires.asked longer c.if-asked.true)

pub returns-in-Ok-clause-allowed : goal.returns-in-Ok-clause-allowed
returns-in-Ok-clause-allowed g c h longer =
    let old = c.args.caller.now in
    let v = view old.pass in
    let w = c.is_committed.new.caller in
    let e = c.in-Ok.ensures in
    let start = start_of c.args.hall.now in
    let b = at_same start (view w.pass) old.number w.number old.session w.session e.same.1 e.same.0 e.ready in
    let young : c.args.asked.oldest ≤ c.args.x = grind (arith, nat_tests, c.if-lt.false, c.lt.ensures) in
    let new : c.args.x < c.args.asked.next = grind (arith, nat_tests, c.if-ge.false, c.ge.ensures) in
    told_status start v (view w.pass) old.number old.session c.args.x c.args.asked h c.requires.ready.at b e.went c.requires.full c.requires.asked longer (g.P.PageDisk.tells) c.ended.result
    young new (ap is_in_progress c.ended.ensures ∙ (ended_off c.in-Ok.committed ∙ sym c.if-asked.false))
    (λ told. c.ended.ensures ∙ stood start v (view w.pass) old.number old.session c.args.x c.args.asked h c.requires.ready.at b e.went c.requires.full c.requires.asked longer c.in-Ok.committed (e.state told.0) c.if-asked.false young new told.1)

pub returns-in-Err-clause-allowed : goal.returns-in-Err-clause-allowed
returns-in-Err-clause-allowed g c h longer =
    let old = c.args.caller.now in
    let v = view old.pass in
    let w = c.is_committed.new.caller in
    let e = c.in-Err.ensures in
    let start = start_of c.args.hall.now in
    let b = at_same start (view w.pass) old.number w.number old.session w.session e.same.1 e.same.0 e.ready in
    (told_unread start v (view w.pass) old.number old.session c.args.x c.args.asked h c.requires.ready.at b e.went c.requires.full c.requires.asked longer (g.P.PageDisk.tells) c.in-Err.refusal e.unread).0
