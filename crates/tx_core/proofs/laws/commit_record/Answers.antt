use Rattle.tx_core.proofs.EventLaws.{commit_record_law}
use Rattle.tx_core.proofs.laws.commit_record.Goals as goal

pub returns : goal.returns
returns c = commit_record_law
