use Rattle.multi_store.proofs.LegalSound.{legal_base}
use Rattle.multi_store.proofs.laws.counters_stay_a_base.Goals as goal

pub returns : goal.returns
returns c = legal_base
