use Rattle.recoverable.proofs.OffsetsFit.{offsets_shown}
use Rattle.recoverable.proofs.laws.offsets_shown.Goals as goal

pub returns : goal.returns
returns c = offsets_shown
