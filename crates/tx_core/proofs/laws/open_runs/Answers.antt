use Rattle.tx_core.proofs.OpenKept.{open_runs}
use Rattle.tx_core.proofs.laws.open_runs.Goals as goal

pub returns : goal.returns
returns c = open_runs
