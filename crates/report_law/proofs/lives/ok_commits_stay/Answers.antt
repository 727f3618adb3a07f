use Rattle.report_law.proofs.Staying.{ok_commits_stay}
use Rattle.report_law.proofs.lives.ok_commits_stay.Goals as goal

pub returns : goal.returns
returns c = ok_commits_stay
