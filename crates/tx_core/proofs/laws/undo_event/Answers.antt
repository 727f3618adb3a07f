use Rattle.tx_core.proofs.EventLaws.{undo_event_law}
use Rattle.tx_core.proofs.laws.undo_event.Goals as goal

pub returns : goal.returns
returns c = undo_event_law
