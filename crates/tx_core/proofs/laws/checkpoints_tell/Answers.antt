use Rattle.tx_core.proofs.LogBehind.{checkpoints_tell}
use Rattle.tx_core.proofs.laws.checkpoints_tell.Goals as goal

pub returns : goal.returns
returns c = checkpoints_tell
