use Rattle.std.proofs.Common.{◌≡◌, ◌+◌, ◌<◌, ◌≤◌, arith}
use Rattle.std.proofs.lemmas.Bool.Decides.{nat_tests}
use Rattle.multi_rules.proofs.MultiAnswers.{member_stop_iff}
use Rattle.multi_rules.proofs.rules.is_member_stop_at.Goals as goal

pub returns : goal.returns
returns g c =
    let reached : c.args.stop ≤ c.args.next + c.args.count = omega (arith, c.saturating_sub.ensures) in
    let i = member_stop_iff c.args.places.now.base c.args.places.now.events g.asked.round g.asked.by c.args.reading c.requires.0 c.requires.1 c.args.count c.args.next c.args.stop c.where_first-firsts.result c.where_member_stop-stops.result c.and.result c.where_first-firsts.ensures c.where_member_stop-stops.ensures c.and.ensures reached in
    (λ t. i.0 (c.meets.ensures.0 t), λ x. c.meets.ensures.1 (i.1 x))
