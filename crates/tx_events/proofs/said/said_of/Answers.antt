use Rattle.tx_events.proofs.SaysLemmas.{says_right}
use Rattle.tx_events.proofs.said.said_of.Goals as goal

pub returns-clause-right : goal.returns-clause-right
returns-clause-right c = says_right c.args.snap.now c.args.x _ c.say.ensures
