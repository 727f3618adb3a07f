use Rattle.run_report.proofs.Whole.{counts}
use Rattle.run_report.proofs.count_laws.counts_are_the_scripts.Goals as goal

pub returns : goal.returns
returns c = counts
