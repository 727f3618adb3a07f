use Rattle.tx_core.proofs.PageShowing.{offsets_show}
use Rattle.tx_core.proofs.laws.offsets_show.Goals as goal

pub returns : goal.returns
returns c = offsets_show
