use Rattle.replay_core.proofs.Fitting.{shows_base}
use Rattle.replay_core.proofs.laws.shows_base.Goals as goal

pub returns : goal.returns
returns c = shows_base
