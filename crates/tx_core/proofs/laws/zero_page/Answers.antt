use Rattle.tx_core.proofs.Quiet.{zero_law}
use Rattle.tx_core.proofs.laws.zero_page.Goals as goal

pub returns : goal.returns
returns c = zero_law
