use Rattle.session_promise.proofs.CheckpointsStay.{checkpoint_goes_on}
use Rattle.session_promise.proofs.laws.checkpoint_goes_on.Goals as goal

pub returns : goal.returns
returns c = checkpoint_goes_on
