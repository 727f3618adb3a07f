use Rattle.report_check.proofs.Once.{judged_once}
use Rattle.report_check.proofs.law.judged_once.Goals as goal

pub returns : goal.returns
returns c = judged_once
