use Rattle.tx_core.proofs.Quiet.{forget_law}
use Rattle.tx_core.proofs.laws.forget.Goals as goal

pub returns : goal.returns
returns c = forget_law
