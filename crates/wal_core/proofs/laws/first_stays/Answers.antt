use Rattle.wal_core.proofs.Spellings.{first_stays}
use Rattle.wal_core.proofs.laws.first_stays.Goals as goal

pub returns : goal.returns
returns c = first_stays
