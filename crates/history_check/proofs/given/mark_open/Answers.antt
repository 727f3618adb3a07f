use Rattle.history_check.proofs.Noting.{unmarked}
use Rattle.history_check.proofs.given.mark_open.Goals as goal

pub returns : goal.returns
returns c = unmarked c.args.slot.now c.args.items.now c.args.place c.if-slot.false
