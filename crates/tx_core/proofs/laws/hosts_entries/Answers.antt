use Rattle.tx_core.proofs.Quiet.{hosts_keep}
use Rattle.tx_core.proofs.laws.hosts_entries.Goals as goal

pub returns : goal.returns
returns c = hosts_keep
