use Rattle.place_rules.proofs.Answering.{horizon_iff}
use Rattle.place_rules.proofs.rules.is_horizon_at.Goals as goal

pub returns : goal.returns
returns g c =
    let i = horizon_iff c.args.places.now.base c.args.places.now.events g.asked.round g.asked.by c.args.reading c.requires.0 c.requires.1 c.args.xmin c.where_xmin.result c.where_xmin.ensures in
    (λ t. i.0 (c.meets.ensures.0 t), λ x. c.meets.ensures.1 (i.1 x))
