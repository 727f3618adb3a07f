use Rattle.tx_core.proofs.EventLaws.{commit_event_law}
use Rattle.tx_core.proofs.laws.commit_event.Goals as goal

pub returns : goal.returns
returns c = commit_event_law
