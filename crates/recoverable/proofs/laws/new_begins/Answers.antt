use Rattle.recoverable.proofs.NewBegins.{new_begins, new_log_begins}
use Rattle.recoverable.proofs.laws.new_begins.Goals as goal

pub returns-clause-clean : goal.returns-clause-clean
returns-clause-clean c = new_begins

pub returns-clause-log : goal.returns-clause-log
returns-clause-log c = new_log_begins
