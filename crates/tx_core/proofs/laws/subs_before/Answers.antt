use Rattle.tx_core.proofs.Closed.{subs_before}
use Rattle.tx_core.proofs.laws.subs_before.Goals as goal

pub returns : goal.returns
returns c = subs_before
