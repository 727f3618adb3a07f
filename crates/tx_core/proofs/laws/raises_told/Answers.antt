use Rattle.tx_core.proofs.Nearness.{raises_told}
use Rattle.tx_core.proofs.laws.raises_told.Goals as goal

pub returns : goal.returns
returns c = raises_told
