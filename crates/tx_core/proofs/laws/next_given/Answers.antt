use Rattle.tx_core.proofs.RecordNext.{next_given_all}
use Rattle.tx_core.proofs.laws.next_given.Goals as goal

pub returns : goal.returns
returns c = next_given_all
