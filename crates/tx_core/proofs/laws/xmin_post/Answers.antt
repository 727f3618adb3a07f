use Rattle.tx_core.proofs.Posting.{xmin_post_law}
use Rattle.tx_core.proofs.laws.xmin_post.Goals as goal

pub returns : goal.returns
returns c = xmin_post_law
