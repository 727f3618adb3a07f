use Rattle.wal_core.proofs.Spellings.{opens_exactly}
use Rattle.wal_core.proofs.laws.opens_exactly.Goals as goal

pub returns : goal.returns
returns c = opens_exactly
