use Rattle.session_promise.proofs.LawfulLives.{promises_make_life}
use Rattle.session_promise.proofs.laws.promises_make_life.Goals as goal

pub returns : goal.returns
returns c = promises_make_life
