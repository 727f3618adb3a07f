use Rattle.bank_follows.proofs.Stores.{images_follow}
use Rattle.bank_follows.proofs.laws.images_follow.Goals as goal

pub returns : goal.returns
returns c = images_follow
