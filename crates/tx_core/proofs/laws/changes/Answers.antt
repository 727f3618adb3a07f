use Rattle.tx_core.proofs.ChangeLaws.{changes_law}
use Rattle.tx_core.proofs.laws.changes.Goals as goal

pub returns : goal.returns
returns c = changes_law
