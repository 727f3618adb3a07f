use Rattle.run_report.proofs.Scripts.{answer_of_one}
use Rattle.run_report.proofs.laws.answer_is_of_one_report.Goals as goal

pub returns : goal.returns
returns c = answer_of_one
