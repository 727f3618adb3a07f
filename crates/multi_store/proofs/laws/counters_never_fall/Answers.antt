use Rattle.multi_store.proofs.LegalSound.{legal_rises}
use Rattle.multi_store.proofs.laws.counters_never_fall.Goals as goal

pub returns : goal.returns
returns c = legal_rises
