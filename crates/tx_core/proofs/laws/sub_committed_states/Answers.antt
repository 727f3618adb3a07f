use Rattle.tx_core.proofs.ChangeLaws.{sub_committed_law}
use Rattle.tx_core.proofs.laws.sub_committed_states.Goals as goal

pub returns : goal.returns
returns c = sub_committed_law
