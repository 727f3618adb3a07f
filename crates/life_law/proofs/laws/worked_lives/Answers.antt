use Rattle.life_law.proofs.Worked.{worked_lives}
use Rattle.life_law.proofs.laws.worked_lives.Goals as goal

pub returns : goal.returns
returns c = worked_lives
