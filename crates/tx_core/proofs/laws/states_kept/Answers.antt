use Rattle.tx_core.proofs.Cutting.{states_kept}
use Rattle.tx_core.proofs.laws.states_kept.Goals as goal

pub returns : goal.returns
returns c = states_kept
