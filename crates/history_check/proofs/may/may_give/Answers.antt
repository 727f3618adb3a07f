use Rattle.history_check.proofs.OldestBounds.{oldest_to}
use Rattle.history_check.proofs.may.may_give.Goals as goal

pub of-requires : goal.of-requires
of-requires c = oldest_to c.args.table.now.base c.args.table.now.events c.oldest.result c.events-legal.ensures.base c.events-legal.ensures.legal c.oldest.ensures
