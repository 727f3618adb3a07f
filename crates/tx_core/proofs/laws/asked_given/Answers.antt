use Rattle.tx_core.proofs.Opening.{asked_given}
use Rattle.tx_core.proofs.laws.asked_given.Goals as goal

pub returns : goal.returns
returns c = asked_given
