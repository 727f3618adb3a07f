use Rattle.tx_core.proofs.Quiet.{look_law}
use Rattle.tx_core.proofs.laws.look.Goals as goal

pub returns : goal.returns
returns c = look_law
