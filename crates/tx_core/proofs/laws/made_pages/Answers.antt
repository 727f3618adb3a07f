use Rattle.tx_core.proofs.EventLaws.{made_law}
use Rattle.tx_core.proofs.laws.made_pages.Goals as goal

pub returns : goal.returns
returns c = made_law
