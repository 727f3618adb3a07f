use Rattle.engine_parts.proofs.Newness.{new_may_call}
use Rattle.engine_parts.proofs.laws.new_may_call.Goals as goal

pub returns : goal.returns
returns c = new_may_call
