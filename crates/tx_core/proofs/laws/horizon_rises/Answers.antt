use Rattle.tx_core.proofs.HorizonLaws.{horizon_rises}
use Rattle.tx_core.proofs.laws.horizon_rises.Goals as goal

pub returns : goal.returns
returns c = horizon_rises
