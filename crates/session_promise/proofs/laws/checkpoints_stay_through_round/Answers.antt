use Rattle.session_promise.proofs.CheckpointsStay.{checkpoints_stay_round}
use Rattle.session_promise.proofs.laws.checkpoints_stay_through_round.Goals as goal

pub returns : goal.returns
returns c = checkpoints_stay_round
