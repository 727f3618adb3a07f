use Rattle.tx_core.proofs.EventLaws.{ask_law}
use Rattle.tx_core.proofs.laws.ask_event.Goals as goal

pub returns : goal.returns
returns c = ask_law
