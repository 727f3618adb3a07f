use Rattle.bank_follows.proofs.Making.{stored_pages_made}
use Rattle.bank_follows.proofs.laws.stored_pages_made.Goals as goal

pub returns : goal.returns
returns c = stored_pages_made
