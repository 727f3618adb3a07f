use Rattle.std.proofs.Common.{arith}
use Rattle.std.proofs.lemmas.Bool.{false≢true}
use Rattle.place_rules.proofs.SeenRules.{no_future}
use Rattle.place_rules.proofs.asked.is_future_at.Goals as goal

pub returns : goal.returns
returns g c = (λ t. absurd (false≢true t), λ s. absurd (no_future c.args.places.now.base c.args.places.now.events c.args.run.now c.loop-place.place-index (omega arith) g.by c.args.x c.args.next c.requires c.loop-place.invariant.none s))
