use Rattle.tx_events.proofs.SaysLemmas.{top_sight_right}
use Rattle.tx_events.proofs.sight.sight_of_top.Goals as goal

pub returns-clause-right : goal.returns-clause-right
returns-clause-right c = top_sight_right c.args.snap.now c.args.topmost _ c.had_ended.ensures.value
