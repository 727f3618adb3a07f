use Rattle.tx_core.proofs.EventLaws.{snap_event_law}
use Rattle.tx_core.proofs.laws.snap_event.Goals as goal

pub returns : goal.returns
returns c = snap_event_law
