use Rattle.report_read.proofs.Reading.{one_report}
use Rattle.report_read.proofs.law.no_text_of_two.Goals as goal

pub returns : goal.returns
returns c = one_report
