use Rattle.tx_core.proofs.Quiet.{sync_law}
use Rattle.tx_core.proofs.laws.sync.Goals as goal

pub returns : goal.returns
returns c = sync_law
