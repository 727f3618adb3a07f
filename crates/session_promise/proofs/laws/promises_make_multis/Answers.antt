use Rattle.session_promise.proofs.LawfulMultis.{promises_make_multis}
use Rattle.session_promise.proofs.laws.promises_make_multis.Goals as goal

pub returns : goal.returns
returns c = promises_make_multis
