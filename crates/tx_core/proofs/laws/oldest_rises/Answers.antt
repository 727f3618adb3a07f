use Rattle.tx_core.proofs.Posting.{oldest_rises}
use Rattle.tx_core.proofs.laws.oldest_rises.Goals as goal

pub returns : goal.returns
returns c = oldest_rises
