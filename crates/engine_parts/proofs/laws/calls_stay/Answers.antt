use Rattle.engine_parts.proofs.Going.{calls_stay}
use Rattle.engine_parts.proofs.laws.calls_stay.Goals as goal

pub returns : goal.returns
returns c = calls_stay
