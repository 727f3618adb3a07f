use Rattle.report_law.proofs.OneLog.{bases_are_of_one_log}
use Rattle.report_law.proofs.lives.bases_are_of_one_log.Goals as goal

pub returns : goal.returns
returns c = bases_are_of_one_log
