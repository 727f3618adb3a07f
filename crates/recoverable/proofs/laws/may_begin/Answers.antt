use Rattle.recoverable.proofs.Checkpoints.{may_begin}
use Rattle.recoverable.proofs.laws.may_begin.Goals as goal

pub returns : goal.returns
returns c = may_begin
