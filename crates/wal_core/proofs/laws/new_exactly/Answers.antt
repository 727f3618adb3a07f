use Rattle.wal_core.proofs.News.{new_exactly}
use Rattle.wal_core.proofs.laws.new_exactly.Goals as goal

pub returns : goal.returns
returns c = new_exactly
