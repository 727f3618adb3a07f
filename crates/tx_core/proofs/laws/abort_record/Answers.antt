use Rattle.tx_core.proofs.Quiet.{abort_record_law}
use Rattle.tx_core.proofs.laws.abort_record.Goals as goal

pub returns : goal.returns
returns c = abort_record_law
