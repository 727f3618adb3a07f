use Rattle.tx_events.proofs.BaseSteps.{base_then}
use Rattle.tx_events.proofs.laws.bases_add.Goals as goal

pub returns : goal.returns
returns c = base_then
