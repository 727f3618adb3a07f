use Rattle.tx_core.proofs.HorizonLaws.{snapshots_hold}
use Rattle.tx_core.proofs.laws.snapshots_hold.Goals as goal

pub returns : goal.returns
returns c = snapshots_hold
