use Rattle.tx_core.proofs.Closed.{tops_first}
use Rattle.tx_core.proofs.laws.tops_first.Goals as goal

pub returns : goal.returns
returns c = tops_first
