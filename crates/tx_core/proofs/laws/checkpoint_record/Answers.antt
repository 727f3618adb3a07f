use Rattle.tx_core.proofs.Quiet.{checkpoint_record_law}
use Rattle.tx_core.proofs.laws.checkpoint_record.Goals as goal

pub returns : goal.returns
returns c = checkpoint_record_law
