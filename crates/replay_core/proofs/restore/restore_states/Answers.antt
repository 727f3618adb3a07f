use Rattle.std.proofs.Common.{OnOk, ℕ, subst}
use Rattle.disk_core.specs.Pages.{Pages, page_bytes}
use Rattle.tx_events.specs.LifeBase.{committed_in}
use Rattle.replay_core.specs.Redo.{IsNamed}
use Rattle.replay_core.specs.Restore.{RestoresAll, bytes_on}
use Rattle.replay_core.proofs.Emptying.{left_then, restored_empty}
use Rattle.replay_core.proofs.restore.restore_states.Goals as goal

pub returns-in-Ok-true-clause-shows : goal.returns-in-Ok-true-clause-shows
returns-in-Ok-true-clause-shows g c told =
    let A : ℕ → Type 0 = IsNamed c.args.share.now c.args.base.now.oldest (committed_in c.args.recs.now) in let e = c.in-Ok-true.ensures in
    restored_empty A c.args.base.now.next g.P.PageDisk c.args.disk c.rests_empty.new.disk (c.rests_empty.ensures.same told) (e.none c.in-Ok-true.field-0-test) (e.empty told c.in-Ok-true.field-0-test)

pub returns-in-Ok-false-clause-shows : goal.returns-in-Ok-false-clause-shows
returns-in-Ok-false-clause-shows g c told =
    let A : ℕ → Type 0 = IsNamed c.args.share.now c.args.base.now.oldest (committed_in c.args.recs.now) in
    subst (λ (p : Pages). OnOk c.restore_present.result.1 (RestoresAll A c.args.base.now.next (λ q. page_bytes (p q)) (bytes_on g.P.PageDisk c.restore_present.result.0)))
    (c.rests_empty.ensures.same told) (c.restore_present.ensures.shows told)

pub returns-in-Ok-false-clause-moments : goal.returns-in-Ok-false-clause-moments
returns-in-Ok-false-clause-moments g c told =
    let A : ℕ → Type 0 = IsNamed c.args.share.now c.args.base.now.oldest (committed_in c.args.recs.now) in
    left_then A c.args.base.now.next g.P.PageDisk c.args.disk c.rests_empty.new.disk (c.rests_empty.ensures.crash told) (c.rests_empty.ensures.same told) c.restore_present.result.0 (c.restore_present.ensures.moments told)
