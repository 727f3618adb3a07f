use Rattle.recoverable.proofs.WorkedLife.{are_refused, is_worked}
use Rattle.recoverable.proofs.WorkedBank.{worked_bank}
use Rattle.recoverable.proofs.WorkedRestored.{is_restored}
use Rattle.recoverable.proofs.laws.worked_life.Goals as goal

pub returns-clause-fits : goal.returns-clause-fits
returns-clause-fits c = is_worked

pub returns-clause-wrong : goal.returns-clause-wrong
returns-clause-wrong c = are_refused

pub returns-clause-restored : goal.returns-clause-restored
returns-clause-restored c = is_restored

pub returns-clause-bank : goal.returns-clause-bank
returns-clause-bank c = worked_bank
