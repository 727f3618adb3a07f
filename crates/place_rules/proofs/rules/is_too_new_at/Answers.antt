use Rattle.std.proofs.Common.{◌<◌, ◌≤◌, arith}
use Rattle.std.proofs.lemmas.Bool.Decides.{nat_tests}
use Rattle.place_rules.proofs.Answering.{too_new_iff}
use Rattle.place_rules.proofs.rules.is_too_new_at.Goals as goal

pub returns : goal.returns
returns g c =
    let below : c.args.limit < c.args.oldest = grind (arith, nat_tests, c.if-le.false, c.le.ensures) in
    let i = too_new_iff c.args.places.now.base c.args.places.now.events g.asked.round g.asked.by c.args.reading c.requires.0 c.requires.1 c.args.oldest c.args.limit c.where_xmin.result c.where_xmin.ensures below in
    (λ t. i.0 (c.meets.ensures.0 t), λ x. c.meets.ensures.1 (i.1 x))
