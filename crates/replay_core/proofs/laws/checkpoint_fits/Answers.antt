use Rattle.replay_core.proofs.Phases.{checkpoint_fits}
use Rattle.replay_core.proofs.laws.checkpoint_fits.Goals as goal

pub returns : goal.returns
returns c = checkpoint_fits
