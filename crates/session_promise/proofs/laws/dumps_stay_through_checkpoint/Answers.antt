use Rattle.session_promise.proofs.CheckpointsStay.{dumps_stay_checkpoint}
use Rattle.session_promise.proofs.laws.dumps_stay_through_checkpoint.Goals as goal

pub returns : goal.returns
returns c = dumps_stay_checkpoint
