use Rattle.wal_core.proofs.Comings.{checkpoint_may_come}
use Rattle.wal_core.proofs.laws.checkpoint_may_come.Goals as goal

pub returns : goal.returns
returns c = checkpoint_may_come
