use Rattle.tx_core.proofs.Nearness.{made_near}
use Rattle.tx_core.proofs.laws.made_near.Goals as goal

pub returns : goal.returns
returns c = made_near
