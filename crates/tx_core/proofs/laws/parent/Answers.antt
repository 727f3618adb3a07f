use Rattle.tx_core.proofs.ChangeLaws.{parent_law}
use Rattle.tx_core.proofs.laws.parent.Goals as goal

pub returns : goal.returns
returns c = parent_law
