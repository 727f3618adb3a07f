use Rattle.session_promise.proofs.Staying.{promise_stays}
use Rattle.session_promise.proofs.laws.promise_stays.Goals as goal

pub returns : goal.returns
returns c = promise_stays
