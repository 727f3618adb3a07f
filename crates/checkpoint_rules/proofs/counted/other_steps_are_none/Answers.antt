use Rattle.checkpoint_rules.proofs.Stepping.{asked_other, done_other, no_ok}
use Rattle.checkpoint_rules.proofs.counted.other_steps_are_none.Goals as goal

pub returns : goal.returns
returns c = λ j before s k none a. record {
  recorded = a.recorded;
  asked = asked_other j before s k.asked none a.asked;
  done = done_other j before s k.done (no_ok s none) a.done;
}
