use Rattle.std.proofs.Common.{rules, of_calls, nat_lt, nat_le}
use Rattle.std.proofs.lemmas.Fn.{always_returns_same}
use Rattle.place_columns.proofs.Parting.{below_parted, span_is, upto_parted}
use Rattle.place_columns.proofs.span.span_of.Goals as goal

pub returns : goal.returns
returns c =
    let xs = c.args.column.now in
    let n = c.args.number in
    let from = c.partition_point.ensures.partitioned (λ x. nat_lt x n) (always_returns_same _ _ _ (λ a r f k. search (rules, of_calls))) (λ i j d l m e. below_parted xs n c.requires i j d l m e) in
    let end = c.partition_point-2.ensures.partitioned (λ x. nat_le x n) (always_returns_same _ _ _ (λ a r f k. search (rules, of_calls))) (λ i j d l m e. upto_parted xs n c.requires i j d l m e) in
    span_is xs n c.partition_point.result c.partition_point-2.result c.partition_point-2.ensures.bound from.0 from.1 end.0 end.1
