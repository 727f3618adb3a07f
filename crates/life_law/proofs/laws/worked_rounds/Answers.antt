use Rattle.life_law.proofs.RoundLimits.{worked_rounds}
use Rattle.life_law.proofs.laws.worked_rounds.Goals as goal

pub returns : goal.returns
returns c = worked_rounds
