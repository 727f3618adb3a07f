use Rattle.session_promise.proofs.Beginning.{promise_begins}
use Rattle.session_promise.proofs.laws.promise_begins.Goals as goal

pub returns : goal.returns
returns c = promise_begins
