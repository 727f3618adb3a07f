use Rattle.bank_follows.proofs.Near.{near_on_made, short_makes_near}
use Rattle.bank_follows.proofs.laws.made_is_near.Goals as goal

pub returns-clause-numbers : goal.returns-clause-numbers
returns-clause-numbers c = near_on_made

pub returns-clause-pages : goal.returns-clause-pages
returns-clause-pages c = short_makes_near
