use Rattle.tx_core.proofs.Opening.{committed_asked}
use Rattle.tx_core.proofs.laws.committed_asked.Goals as goal

pub returns : goal.returns
returns c = committed_asked
