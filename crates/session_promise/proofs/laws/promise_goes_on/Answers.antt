use Rattle.session_promise.proofs.GoingOn.{promise_goes_on}
use Rattle.session_promise.proofs.laws.promise_goes_on.Goals as goal

pub returns : goal.returns
returns c = promise_goes_on
