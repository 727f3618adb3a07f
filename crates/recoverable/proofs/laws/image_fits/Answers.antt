use Rattle.recoverable.proofs.Whole.{image_fits}
use Rattle.recoverable.proofs.laws.image_fits.Goals as goal

pub returns : goal.returns
returns c = image_fits
