use Rattle.life_law.proofs.Lawful.{aborts_unrecorded}
use Rattle.life_law.proofs.laws.ok_aborts_are_unrecorded.Goals as goal

pub returns : goal.returns
returns c = aborts_unrecorded
