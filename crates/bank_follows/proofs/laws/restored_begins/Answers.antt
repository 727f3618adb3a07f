use Rattle.bank_follows.proofs.Restored.{restored_begins}
use Rattle.bank_follows.proofs.laws.restored_begins.Goals as goal

pub returns : goal.returns
returns c = restored_begins
