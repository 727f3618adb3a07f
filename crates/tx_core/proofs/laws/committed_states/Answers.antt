use Rattle.tx_core.proofs.ChangeLaws.{committed_law}
use Rattle.tx_core.proofs.laws.committed_states.Goals as goal

pub returns : goal.returns
returns c = committed_law
