use Rattle.tx_core.proofs.EventLaws.{abort_event_law}
use Rattle.tx_core.proofs.laws.abort_event.Goals as goal

pub returns : goal.returns
returns c = abort_event_law
