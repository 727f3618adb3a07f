use Rattle.tx_core.proofs.EventLaws.{snap_drop_law}
use Rattle.tx_core.proofs.laws.snap_drop.Goals as goal

pub returns : goal.returns
returns c = snap_drop_law
