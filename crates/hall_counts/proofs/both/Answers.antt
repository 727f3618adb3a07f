use Rattle.std.proofs.Common.{rules, arith}
use Rattle.std.proofs.lemmas.Option.{slice_get-get_or}
use Rattle.hall_counts.proofs.both.Goals as goal

pub returns : goal.returns
returns g c =
    let s = c.close_with.ensures.stand in let two = c.in_ok-hall.ensures.sizes.0 in let count = s.0 in let behind = c.close_with.ensures.kept.behind in
    let first = s.1 0 _ (slice_get-get_or c.close_with.result.items 0 0 (omega arith)) in let second = s.1 1 _ (slice_get-get_or c.close_with.result.items 1 0 (omega arith)) in
    (search rules, omega arith)
