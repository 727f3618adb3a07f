use Rattle.tx_core.proofs.Posting.{posts_go_on}
use Rattle.tx_core.proofs.laws.posts_go_on.Goals as goal

pub returns : goal.returns
returns c = posts_go_on
