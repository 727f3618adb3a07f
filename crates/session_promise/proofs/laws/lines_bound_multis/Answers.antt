use Rattle.session_promise.proofs.FewMultis.{lines_bound_multis}
use Rattle.session_promise.proofs.laws.lines_bound_multis.Goals as goal

pub returns : goal.returns
returns c = lines_bound_multis
