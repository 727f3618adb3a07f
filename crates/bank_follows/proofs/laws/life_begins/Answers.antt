use Rattle.bank_follows.proofs.LifeBegins.{life_begins}
use Rattle.bank_follows.proofs.laws.life_begins.Goals as goal

pub returns : goal.returns
returns c = life_begins
