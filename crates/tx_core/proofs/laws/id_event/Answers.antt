use Rattle.tx_core.proofs.EventLaws.{id_event_law}
use Rattle.tx_core.proofs.laws.id_event.Goals as goal

pub returns : goal.returns
returns c = id_event_law
