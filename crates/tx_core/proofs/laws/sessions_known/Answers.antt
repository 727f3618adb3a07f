use Rattle.tx_core.proofs.Opening.{sessions_known}
use Rattle.tx_core.proofs.laws.sessions_known.Goals as goal

pub returns : goal.returns
returns c = sessions_known
