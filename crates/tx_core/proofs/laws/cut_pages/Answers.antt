use Rattle.tx_core.proofs.Quiet.{cut_law}
use Rattle.tx_core.proofs.laws.cut_pages.Goals as goal

pub returns : goal.returns
returns c = cut_law
