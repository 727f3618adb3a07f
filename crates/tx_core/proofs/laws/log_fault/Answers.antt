use Rattle.tx_core.proofs.Quiet.{log_fault_law}
use Rattle.tx_core.proofs.laws.log_fault.Goals as goal

pub returns : goal.returns
returns c = log_fault_law
