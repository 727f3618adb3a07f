use Rattle.recoverable.proofs.LogSteps.{log_goes_on}
use Rattle.recoverable.proofs.laws.log_goes_on.Goals as goal

pub returns : goal.returns
returns c = log_goes_on
