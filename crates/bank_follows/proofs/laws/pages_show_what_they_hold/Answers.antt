use Rattle.bank_follows.proofs.Begins.{pages_show_what_they_hold}
use Rattle.bank_follows.proofs.laws.pages_show_what_they_hold.Goals as goal

pub returns : goal.returns
returns c = pages_show_what_they_hold
