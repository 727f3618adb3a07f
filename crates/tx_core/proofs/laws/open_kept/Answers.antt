use Rattle.tx_core.proofs.OpenKept.{open_kept}
use Rattle.tx_core.proofs.laws.open_kept.Goals as goal

pub returns : goal.returns
returns c = open_kept
