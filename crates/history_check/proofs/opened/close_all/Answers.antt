use Rattle.std.proofs.Common.{arith}
use Rattle.history_check.proofs.Noting.{closed_more, none_closed}
use Rattle.history_check.proofs.opened.close_all.Goals as goal

pub loop-id-init : goal.loop-id-init
loop-id-init c = none_closed c.args.opened.now c.requires

pub loop-id-preserved : goal.loop-id-preserved
loop-id-preserved c = closed_more c.args.closed.now c.loop-id.id-index c.id-item.result c.args.opened.now c.loop-id.opened c.close.new.opened (omega arith) c.id-item.is c.loop-id.invariant c.close.ensures
