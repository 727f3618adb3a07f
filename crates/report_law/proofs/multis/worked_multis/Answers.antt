use Rattle.report_law.proofs.Wrong.{worked_multis}
use Rattle.report_law.proofs.multis.worked_multis.Goals as goal

pub returns : goal.returns
returns c = worked_multis
