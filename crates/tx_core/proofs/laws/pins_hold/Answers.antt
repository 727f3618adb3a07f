use Rattle.tx_core.proofs.OwnMultis.{pins_hold}
use Rattle.tx_core.proofs.laws.pins_hold.Goals as goal

pub returns : goal.returns
returns c = pins_hold
