use Rattle.tx_model.specs.Stance.{snap_of}
use Rattle.reply_rules.proofs.Plainly.{some_is}
use Rattle.reply_rules.proofs.plain.can_drop.Goals as goal

pub returns : goal.returns
returns c = some_is c.has_snapshot.result (snap_of c.args.name.now c.args.standing.now) c.has_snapshot.ensures
