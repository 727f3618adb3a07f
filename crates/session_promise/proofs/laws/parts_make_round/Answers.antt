use Rattle.session_promise.proofs.Parting.{parts_make_round}
use Rattle.session_promise.proofs.laws.parts_make_round.Goals as goal

pub returns : goal.returns
returns c = parts_make_round
