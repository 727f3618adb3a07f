use Rattle.recoverable.proofs.LogBegins.{log_begins}
use Rattle.recoverable.proofs.laws.log_begins.Goals as goal

pub returns : goal.returns
returns c = log_begins
