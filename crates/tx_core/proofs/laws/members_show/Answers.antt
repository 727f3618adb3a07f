use Rattle.tx_core.proofs.PageShowing.{members_show}
use Rattle.tx_core.proofs.laws.members_show.Goals as goal

pub returns : goal.returns
returns c = members_show
