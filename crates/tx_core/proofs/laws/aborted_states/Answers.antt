use Rattle.tx_core.proofs.ChangeLaws.{aborted_law}
use Rattle.tx_core.proofs.laws.aborted_states.Goals as goal

pub returns : goal.returns
returns c = aborted_law
