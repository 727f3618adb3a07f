use Rattle.recoverable.proofs.FitsXact.{fits_xact}
use Rattle.recoverable.proofs.laws.xact_fits.Goals as goal

pub returns : goal.returns
returns c = fits_xact
