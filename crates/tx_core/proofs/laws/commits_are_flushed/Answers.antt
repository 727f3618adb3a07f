use Rattle.tx_core.proofs.Flushed.{commits_are_flushed}
use Rattle.tx_core.proofs.laws.commits_are_flushed.Goals as goal

pub returns : goal.returns
returns c = commits_are_flushed
