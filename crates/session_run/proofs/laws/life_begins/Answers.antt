use Rattle.session_run.proofs.Going.{life_begins}
use Rattle.session_run.proofs.laws.life_begins.Goals as goal

pub returns : goal.returns
returns g c = life_begins c.args.hall.now
