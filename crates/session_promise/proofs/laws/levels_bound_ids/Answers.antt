use Rattle.session_promise.proofs.FewIds.{levels_bound_ids}
use Rattle.session_promise.proofs.laws.levels_bound_ids.Goals as goal

pub returns : goal.returns
returns c = levels_bound_ids
