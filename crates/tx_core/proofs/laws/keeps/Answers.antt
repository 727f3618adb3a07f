use Rattle.tx_core.proofs.Keeping.{keeps}
use Rattle.tx_core.proofs.laws.keeps.Goals as goal

pub returns : goal.returns
returns c = keeps
