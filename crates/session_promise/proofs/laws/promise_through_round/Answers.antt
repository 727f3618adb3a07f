use Rattle.session_promise.proofs.Rounding.{promise_through}
use Rattle.session_promise.proofs.laws.promise_through_round.Goals as goal

pub returns : goal.returns
returns c = promise_through
