use Rattle.life_law.proofs.Lawful.{commits_flushed}
use Rattle.life_law.proofs.laws.ok_commits_are_flushed.Goals as goal

pub returns : goal.returns
returns c = commits_flushed
