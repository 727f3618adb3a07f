use Rattle.session_promise.proofs.Rounding.{so_far_begins}
use Rattle.session_promise.proofs.laws.so_far_begins.Goals as goal

pub returns : goal.returns
returns c = so_far_begins
