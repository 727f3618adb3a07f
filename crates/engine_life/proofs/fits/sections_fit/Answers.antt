use Rattle.engine_life.proofs.Sections.{sections_fit}
use Rattle.engine_life.proofs.fits.sections_fit.Goals as goal

pub returns : goal.returns
returns c = sections_fit
