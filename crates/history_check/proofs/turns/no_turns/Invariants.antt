use Rattle.std.proofs.Common.{◌≡◌, length}
use Rattle.std.specs.List.{AllByRecursion}
use Rattle.history_check.proofs.turns.no_turns.Given as goal

abbrev pub invariant-loop-n : goal.invariant-loop-n
invariant-loop-n l = record {
  size : length l.last.items ≡ l._n;
  zero : AllByRecursion (λ n. n ≡ 0) l.last.items;
}
