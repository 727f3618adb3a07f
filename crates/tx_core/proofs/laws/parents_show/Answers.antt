use Rattle.tx_core.proofs.PageShowing.{parents_show}
use Rattle.tx_core.proofs.laws.parents_show.Goals as goal

pub returns : goal.returns
returns c = parents_show
