use Rattle.session_run.proofs.Going.{life_goes_on}
use Rattle.session_run.proofs.laws.life_goes_on.Goals as goal

pub returns : goal.returns
returns g c = life_goes_on c.args.hall.now
