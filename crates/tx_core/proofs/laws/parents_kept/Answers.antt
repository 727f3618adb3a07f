use Rattle.tx_core.proofs.Cutting.{parents_kept}
use Rattle.tx_core.proofs.laws.parents_kept.Goals as goal

pub returns : goal.returns
returns c = parents_kept
