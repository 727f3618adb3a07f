use Rattle.replay_core.proofs.Phases.{cut_fits}
use Rattle.replay_core.proofs.laws.cut_fits.Goals as goal

pub returns : goal.returns
returns c = cut_fits
