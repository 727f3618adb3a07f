use Rattle.multi_rules.proofs.Owned.{warned_iff}
use Rattle.multi_rules.proofs.warned.is_multi_warned.Goals as goal

pub returns : goal.returns
returns g c =
    let i = warned_iff c.args.places.now.base c.args.places.now.events g.by c.args.its.now c.args.multi c.requires in
    (λ t. i.0 (c.is_given_late.ensures.0 t), λ x. c.is_given_late.ensures.1 (i.1 x))
