use Rattle.tx_core.proofs.Holding.{pages_held}
use Rattle.tx_core.proofs.laws.pages_held.Goals as goal

pub returns : goal.returns
returns c = pages_held
