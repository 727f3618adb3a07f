use Rattle.session_promise.proofs.CheckpointsStay.{so_far_checkpoint}
use Rattle.session_promise.proofs.laws.so_far_through_checkpoint.Goals as goal

pub returns : goal.returns
returns c = so_far_checkpoint
