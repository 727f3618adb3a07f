use Rattle.log_takes.proofs.Taking.{truncations_taken}
use Rattle.log_takes.proofs.laws.truncations_taken.Goals as goal

pub returns : goal.returns
returns c = truncations_taken
