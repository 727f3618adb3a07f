use Rattle.run_report.proofs.Scripts.{one_life_whole}
use Rattle.run_report.proofs.laws.one_life_is_read_whole.Goals as goal

pub returns : goal.returns
returns c = one_life_whole
