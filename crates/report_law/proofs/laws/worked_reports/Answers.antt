use Rattle.report_law.proofs.Worked.{worked_reports}
use Rattle.report_law.proofs.laws.worked_reports.Goals as goal

pub returns : goal.returns
returns c = worked_reports
