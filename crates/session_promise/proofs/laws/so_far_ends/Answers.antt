use Rattle.session_promise.proofs.Rounding.{so_far_ends}
use Rattle.session_promise.proofs.laws.so_far_ends.Goals as goal

pub returns : goal.returns
returns c = so_far_ends
