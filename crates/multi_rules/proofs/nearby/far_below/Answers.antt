use Rattle.std.proofs.Common.{rules, of_calls}
use Rattle.std.proofs.lemmas.Fn.{always_returns_same}
use Rattle.multi_rules.specs.Snapped.{is_far_below}
use Rattle.multi_rules.proofs.Parted.{far_parted, first_far}
use Rattle.multi_rules.proofs.nearby.far_below.Goals as goal

pub returns : goal.returns
returns c =
    let point = c.partition_point.ensures.partitioned (is_far_below c.args.id) (always_returns_same _ _ _ (λ a r f k. search (rules, of_calls))) (far_parted c.args.taken.now c.args.id c.requires) in
    first_far c.args.taken.now c.args.id c.partition_point.result c.partition_point.ensures.bound point.0 point.1
