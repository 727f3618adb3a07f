use Rattle.replay_core.proofs.Fitting.{fits_within}
use Rattle.replay_core.proofs.laws.fits_within.Goals as goal

pub returns : goal.returns
returns c = fits_within
