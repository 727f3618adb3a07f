use Rattle.session_promise.proofs.CheckpointsStay.{checkpoints_stay_dump}
use Rattle.session_promise.proofs.laws.checkpoints_stay_through_dump.Goals as goal

pub returns : goal.returns
returns c = checkpoints_stay_dump
