use Rattle.life_law.proofs.WorkedLater.{worked_checkpoints}
use Rattle.life_law.proofs.laws.worked_checkpoints.Goals as goal

pub returns : goal.returns
returns c = worked_checkpoints
