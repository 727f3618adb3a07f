use Rattle.std.proofs.Common.{◌<◌, ◌≤◌, arith}
use Rattle.std.proofs.lemmas.Bool.Decides.{nat_tests}
use Rattle.place_rules.proofs.Answering.{stopped_iff}
use Rattle.place_rules.proofs.rules.is_stopped_at.Goals as goal

pub returns : goal.returns
returns g c =
    let reached : c.args.stop ≤ c.args.next = grind (arith, nat_tests, c.if-lt.false, c.lt.ensures) in
    let i = stopped_iff c.args.places.now.base c.args.places.now.events g.asked.round g.asked.by c.args.reading c.requires.0 c.requires.1 c.args.next c.args.stop c.where_next-nexts.result c.where_stop-stops.result c.and.result c.where_next-nexts.ensures c.where_stop-stops.ensures c.and.ensures reached in
    (λ t. i.0 (c.meets.ensures.0 t), λ x. c.meets.ensures.1 (i.1 x))
