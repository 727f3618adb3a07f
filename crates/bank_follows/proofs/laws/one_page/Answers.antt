use Rattle.bank_follows.proofs.OnePage.{one_page}
use Rattle.bank_follows.proofs.laws.one_page.Goals as goal

pub returns : goal.returns
returns c = one_page
