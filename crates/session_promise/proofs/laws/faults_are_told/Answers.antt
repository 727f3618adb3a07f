use Rattle.session_promise.proofs.FaultLines.{faults_are_told}
use Rattle.session_promise.proofs.laws.faults_are_told.Goals as goal

pub returns : goal.returns
returns c = faults_are_told
