use Rattle.tx_core.proofs.EventLaws.{oldest_law}
use Rattle.tx_core.proofs.laws.oldest_event.Goals as goal

pub returns : goal.returns
returns c = oldest_law
