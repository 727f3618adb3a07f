use Rattle.multi_rules.proofs.Owned.{pinned_iff}
use Rattle.multi_rules.proofs.own.is_pinned_or_next.Goals as goal

pub returns : goal.returns
returns g c =
    let i = pinned_iff g.o.base g.o.all g.o.by c.args.places.now c.args.multi c.requires.1.1 in
    (λ t. i.0 (c.is_any_place.ensures.0 t), λ x. c.is_any_place.ensures.1 (i.1 x))
