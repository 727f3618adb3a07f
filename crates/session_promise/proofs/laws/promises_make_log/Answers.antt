use Rattle.session_promise.proofs.LawfulLog.{promises_make_log}
use Rattle.session_promise.proofs.laws.promises_make_log.Goals as goal

pub returns : goal.returns
returns c = promises_make_log
