use Rattle.tx_core.proofs.ChangeLaws.{fault_law}
use Rattle.tx_core.proofs.laws.fault.Goals as goal

pub returns : goal.returns
returns c = fault_law
