use Rattle.session_promise.proofs.LawfulSteps.{promises_make_steps}
use Rattle.session_promise.proofs.laws.promises_make_steps.Goals as goal

pub returns : goal.returns
returns c = promises_make_steps
