use Rattle.multi_rules.proofs.Ordered.{held_sorted}
use Rattle.multi_rules.proofs.limits.held_limits.Goals as goal

pub returns : goal.returns
returns c =
    let v = c.args.places.now in
    held_sorted v.base v.events c.in_ok-limits.limits.items c.sort.new.self.items c.in_ok-limits.ensures c.in_ok-sort.ensures.permutation c.in_ok-sort.ensures.sorted
