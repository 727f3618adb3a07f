use Rattle.run_report.proofs.Scripts.{script_told_again}
use Rattle.run_report.proofs.laws.run_report_is_read_back.Goals as goal

pub returns : goal.returns
returns c = script_told_again
