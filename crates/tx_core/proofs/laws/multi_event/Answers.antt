use Rattle.tx_core.proofs.Quiet.{multi_event_law}
use Rattle.tx_core.proofs.laws.multi_event.Goals as goal

pub returns : goal.returns
returns c = multi_event_law
