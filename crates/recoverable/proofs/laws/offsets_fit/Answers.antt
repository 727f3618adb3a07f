use Rattle.recoverable.proofs.OffsetsNone.{offsets_fit}
use Rattle.recoverable.proofs.laws.offsets_fit.Goals as goal

pub returns : goal.returns
returns c = offsets_fit
