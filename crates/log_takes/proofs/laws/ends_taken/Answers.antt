use Rattle.log_takes.proofs.Ending.{ends_taken}
use Rattle.log_takes.proofs.laws.ends_taken.Goals as goal

pub returns : goal.returns
returns c = ends_taken
