use Rattle.tx_core.proofs.Closed.{closed_aborted}
use Rattle.tx_core.proofs.laws.closed_aborted.Goals as goal

pub returns : goal.returns
returns c = closed_aborted
