use Rattle.tx_core.proofs.LogLaws.{flushes_rise}
use Rattle.tx_core.proofs.laws.flushes_rise.Goals as goal

pub returns : goal.returns
returns c = flushes_rise
