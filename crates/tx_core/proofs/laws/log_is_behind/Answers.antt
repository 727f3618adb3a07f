use Rattle.tx_core.proofs.LogBehind.{log_is_behind}
use Rattle.tx_core.proofs.laws.log_is_behind.Goals as goal

pub returns : goal.returns
returns c = log_is_behind
