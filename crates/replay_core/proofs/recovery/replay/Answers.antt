use Rattle.std.proofs.lemmas.Result.{err_from_is_err_and}
use Rattle.replay_core.proofs.Recovering.{all_replayed, restoring_failed}
use Rattle.replay_core.proofs.recovery.replay.Goals as goal

pub returns-in_err-restore_pages : goal.returns-in_err-restore_pages
returns-in_err-restore_pages g c =
    let p = err_from_is_err_and c.from_residual.result c.from_residual.ensures.1 in
    rw (p.1, p.2) (restoring_failed g.P.PageDisk c.args.recs.now c.args.base.now c.args.log.now c.args.pages.now c.restore_pages.new.volumes c.in_err-restore_pages.field-0.0 c.in_err-restore_pages.ensures)

pub returns : goal.returns
returns g c =
    all_replayed g.P.PageDisk c.args.recs.now c.args.base.now c.args.log.now c.args.pages.now c.restore_pages.new.volumes c.settle.new.log c.settle.result
    c.in_ok-restore_pages.ensures c.settle.ensures.settled c.settle.ensures.end c.settle.ensures.kept c.settle.ensures.left c.settle.ensures.moments c.settle.ensures.refused c.settle.ensures.count
