use Rattle.std.proofs.Common.{arith}
use Rattle.std.proofs.lemmas.Bool.Decides.{nat_tests}
use Rattle.multi_rules.proofs.Carrying.{carried_iff}
use Rattle.multi_rules.proofs.one.is_carried_past.Goals as goal

pub returns : goal.returns
returns g c =
    let i = carried_iff c.args.places.now.base c.args.places.now.events g.round c.args.to c.args.id c.oldest_at.result c.legal.ensures.legal c.requires.0 c.oldest_at.ensures in
    (λ t. i.0 (grind (arith, nat_tests, c.lt.ensures)), λ z. let l = i.1 z in grind (arith, nat_tests, c.lt.ensures))
