use Rattle.tx_core.proofs.Posting.{oldest_post_law}
use Rattle.tx_core.proofs.laws.oldest_post.Goals as goal

pub returns : goal.returns
returns c = oldest_post_law
