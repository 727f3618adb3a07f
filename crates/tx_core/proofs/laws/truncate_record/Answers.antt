use Rattle.tx_core.proofs.Quiet.{truncate_record_law}
use Rattle.tx_core.proofs.laws.truncate_record.Goals as goal

pub returns : goal.returns
returns c = truncate_record_law
