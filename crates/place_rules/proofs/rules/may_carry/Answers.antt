use Rattle.place_rules.proofs.Answering.{carry_iff}
use Rattle.place_rules.proofs.rules.may_carry.Goals as goal

pub returns : goal.returns
returns g c =
    let i = carry_iff c.args.places.now.base c.args.places.now.events g.round c.args.to c.args.oldest c.where_oldest.result c.requires.0 c.requires.1 c.where_oldest.ensures in
    (λ t. i.0 (c.meets.ensures.0 t), λ x. c.meets.ensures.1 (i.1 x))
