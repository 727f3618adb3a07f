use Rattle.tx_core.proofs.Opening.{never_aborted}
use Rattle.tx_core.proofs.laws.never_aborted.Goals as goal

pub returns : goal.returns
returns c = never_aborted
