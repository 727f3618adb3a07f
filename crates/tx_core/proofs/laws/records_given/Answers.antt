use Rattle.tx_core.proofs.Once.{records_given}
use Rattle.tx_core.proofs.laws.records_given.Goals as goal

pub returns : goal.returns
returns c = records_given
