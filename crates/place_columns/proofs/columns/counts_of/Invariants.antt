use Rattle.std.proofs.Common.{◌≡◌, nat_lt}
use Rattle.std.specs.List.{count_by}
use Rattle.place_columns.specs.Tables.{AreCounts}
use Rattle.place_columns.proofs.columns.counts_of.Given as goal

abbrev pub invariant-loop-total : goal.invariant-loop-total
invariant-loop-total l = record {
  sum : l.below ≡ count_by (λ k. nat_lt k l.total-index) l.numbers;
  counted : AreCounts l.numbers l.total-index l.counts.items;
}
