use Rattle.history_check.proofs.Seeing.{unseen_where_missing}
use Rattle.history_check.proofs.given.was_committed.Goals as goal

pub returns-in-None : goal.returns-in-None
returns-in-None c = λ base h legal a l. unseen_where_missing c.args.items.now c.args.place c.args.x base h c.in-None.ensures.none legal a
