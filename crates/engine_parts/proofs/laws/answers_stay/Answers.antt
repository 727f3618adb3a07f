use Rattle.engine_parts.proofs.Answering.{answer_grows}
use Rattle.engine_parts.proofs.laws.answers_stay.Goals as goal

pub returns : goal.returns
returns c = answer_grows
