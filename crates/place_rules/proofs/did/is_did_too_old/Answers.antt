use Rattle.std.proofs.Common.{refl, arith}
use Rattle.place_rules.proofs.SeenRules.{too_old_here}
use Rattle.place_rules.proofs.did.is_did_too_old.Goals as goal

pub returns-then-is_older_there : goal.returns-then-is_older_there
returns-then-is_older_there g c = (
  λ t. too_old_here c.args.places.now.base c.args.places.now.events g.asked.round g.asked.by c.args.from c.args.to c.requires.0 c.args.x.number c.args.oldest c.args.to
      (omega arith) (c.requires.1.1.0 c.if-not-carried.false) (omega arith) (omega arith) (c.is_older_there.ensures.0 c.if-is_older_there.true),
  λ u. refl,
)

pub returns-then-is_older_there-2 : goal.returns-then-is_older_there-2
returns-then-is_older_there-2 g c = (
  λ t. too_old_here c.args.places.now.base c.args.places.now.events g.asked.round g.asked.by c.args.from c.args.to c.requires.0 c.args.x.number c.args.oldest c.loop-place.place
      (omega arith) (c.requires.1.1.0 c.if-not-carried.false) (omega arith) (omega arith) (c.is_older_there-in-loop-place.ensures.0 c.if-is_older_there-2.true),
  λ u. refl,
)
