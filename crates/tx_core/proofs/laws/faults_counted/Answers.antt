use Rattle.tx_core.proofs.FaultCounts.{faults_counted}
use Rattle.tx_core.proofs.laws.faults_counted.Goals as goal

pub returns : goal.returns
returns c = faults_counted
