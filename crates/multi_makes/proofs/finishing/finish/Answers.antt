use Rattle.std.proofs.Common.{◌≡◌, refl}
use Rattle.tx_events.specs.declared.refusal.Refusal.TheVariants as refusals
use Rattle.multi_makes.proofs.finishing.finish.Goals as goal

pub returns-in-Err-clause-finishes : goal.returns-in-Err-clause-finishes
returns-in-Err-clause-finishes g c = (refl, c.in-Err.ensures, c.in-Err.ensures, tt)

pub returns-in-Err-clause-full : goal.returns-in-Err-clause-full
returns-in-Err-clause-full g c = λ is. let two : refusals.Memory ≡ refusals.Full = is in absurd cc
