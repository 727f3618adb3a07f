use Rattle.session_run.proofs.Going.{life_ends}
use Rattle.session_run.proofs.laws.life_ends.Goals as goal

pub returns : goal.returns
returns g c = life_ends c.args.hall.now
