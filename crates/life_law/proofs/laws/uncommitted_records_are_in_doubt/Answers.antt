use Rattle.life_law.proofs.Lawful.{records_in_doubt}
use Rattle.life_law.proofs.laws.uncommitted_records_are_in_doubt.Goals as goal

pub returns : goal.returns
returns c = records_in_doubt
