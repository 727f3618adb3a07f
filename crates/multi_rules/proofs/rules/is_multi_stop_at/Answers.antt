use Rattle.std.proofs.Common.{◌≡◌, ℕ, ◌≤◌, subst, arith}
use Rattle.std.proofs.lemmas.Bool.Decides.{nat_tests}
use Rattle.place_columns.specs.Columns.{IsWhere}
use Rattle.history_places.specs.MultiTold.{next_in, stop_in}
use Rattle.multi_rules.proofs.MultiAnswers.{stop_iff}
use Rattle.multi_rules.proofs.rules.is_multi_stop_at.Goals as goal

pub returns : goal.returns
returns g c =
    let reached : c.args.stop ≤ c.args.next = grind (arith, nat_tests, c.if-lt.false, c.lt.ensures) in
    let nexts = subst (λ (n : ℕ). IsWhere (next_in c.args.places.now.base) c.args.places.now.events n c.where_next-nexts.result) c.number.ensures.value c.where_next-nexts.ensures in
    let stops = subst (λ (n : ℕ). IsWhere (stop_in c.args.places.now.base) c.args.places.now.events n c.where_stop-stops.result) c.number-2.ensures.value c.where_stop-stops.ensures in
    let i = stop_iff c.args.places.now.base c.args.places.now.events g.asked.round g.asked.by c.args.reading c.requires.0 c.requires.1 c.args.next c.args.stop c.where_next-nexts.result c.where_stop-stops.result c.and.result nexts stops c.and.ensures reached in
    (λ t. i.0 (c.meets.ensures.0 t), λ x. c.meets.ensures.1 (i.1 x))
