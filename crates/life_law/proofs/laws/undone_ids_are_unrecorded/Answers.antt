use Rattle.life_law.proofs.Lawful.{undone_ids}
use Rattle.life_law.proofs.laws.undone_ids_are_unrecorded.Goals as goal

pub returns : goal.returns
returns c = undone_ids
