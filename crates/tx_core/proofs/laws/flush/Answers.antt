use Rattle.tx_core.proofs.Quiet.{flush_law}
use Rattle.tx_core.proofs.laws.flush.Goals as goal

pub returns : goal.returns
returns c = flush_law
