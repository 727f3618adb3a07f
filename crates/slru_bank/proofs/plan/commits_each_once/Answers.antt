use Rattle.slru_bank.specs.PlanLaw.{committed_once}
use Rattle.slru_bank.proofs.plan.commits_each_once.Goals as goal

pub returns : goal.returns
returns c = committed_once c.args._top c.args._subs.now c.args._i c.requires
