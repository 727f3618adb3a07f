use Rattle.log_takes.proofs.Taking.{multis_taken}
use Rattle.log_takes.proofs.laws.multis_taken.Goals as goal

pub returns : goal.returns
returns c = multis_taken
