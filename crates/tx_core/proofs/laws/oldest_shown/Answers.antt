use Rattle.tx_core.proofs.Shown.{oldest_shown}
use Rattle.tx_core.proofs.laws.oldest_shown.Goals as goal

pub returns : goal.returns
returns c = oldest_shown
