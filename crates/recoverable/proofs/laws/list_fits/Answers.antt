use Rattle.recoverable.proofs.LifeBases.{list_fits}
use Rattle.recoverable.proofs.laws.list_fits.Goals as goal

pub returns : goal.returns
returns c = list_fits
