use Rattle.run_report.proofs.Whole.{summaries}
use Rattle.run_report.proofs.count_laws.summaries_are_the_scripts.Goals as goal

pub returns : goal.returns
returns c = summaries
