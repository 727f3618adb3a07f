use Rattle.tx_core.proofs.LogLaws.{down_stays}
use Rattle.tx_core.proofs.laws.down_stays.Goals as goal

pub returns : goal.returns
returns c = down_stays
