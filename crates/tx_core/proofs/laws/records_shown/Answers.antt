use Rattle.tx_core.proofs.Flushed.{records_shown}
use Rattle.tx_core.proofs.laws.records_shown.Goals as goal

pub returns : goal.returns
returns c = records_shown
