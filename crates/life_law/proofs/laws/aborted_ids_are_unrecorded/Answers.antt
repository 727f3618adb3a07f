use Rattle.life_law.proofs.Lawful.{aborted_ids}
use Rattle.life_law.proofs.laws.aborted_ids_are_unrecorded.Goals as goal

pub returns : goal.returns
returns c = aborted_ids
