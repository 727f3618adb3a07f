use Rattle.session_promise.proofs.CheckpointsStay.{checkpoints_begin}
use Rattle.session_promise.proofs.laws.checkpoints_begin.Goals as goal

pub returns : goal.returns
returns c = checkpoints_begin
