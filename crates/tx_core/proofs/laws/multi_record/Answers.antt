use Rattle.tx_core.proofs.Quiet.{multi_record_law}
use Rattle.tx_core.proofs.laws.multi_record.Goals as goal

pub returns : goal.returns
returns c = multi_record_law
