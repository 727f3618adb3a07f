use Rattle.session_promise.proofs.MultiStaying.{multi_answer_grows}
use Rattle.session_promise.proofs.laws.multi_answers_stay.Goals as goal

pub returns : goal.returns
returns c = multi_answer_grows
