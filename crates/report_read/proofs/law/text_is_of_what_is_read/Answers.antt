use Rattle.report_read.proofs.Untold.{same_text}
use Rattle.report_read.proofs.law.text_is_of_what_is_read.Goals as goal

pub returns : goal.returns
returns c = same_text
