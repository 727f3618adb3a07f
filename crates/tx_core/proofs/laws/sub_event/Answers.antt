use Rattle.tx_core.proofs.EventLaws.{sub_event_law}
use Rattle.tx_core.proofs.laws.sub_event.Goals as goal

pub returns : goal.returns
returns c = sub_event_law
