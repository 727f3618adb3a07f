use Rattle.recoverable.proofs.LogEnds.{log_ends}
use Rattle.recoverable.proofs.laws.log_ends.Goals as goal

pub returns : goal.returns
returns c = log_ends
