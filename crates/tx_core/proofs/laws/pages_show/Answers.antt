use Rattle.tx_core.proofs.PageShowing.{pages_show}
use Rattle.tx_core.proofs.laws.pages_show.Goals as goal

pub returns : goal.returns
returns c = pages_show
