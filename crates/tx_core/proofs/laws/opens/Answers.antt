use Rattle.tx_core.proofs.Opening.{opens}
use Rattle.tx_core.proofs.laws.opens.Goals as goal

pub returns : goal.returns
returns c = opens
