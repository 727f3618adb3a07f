use Rattle.std.proofs.Common.{◌≡◌, length}
use Rattle.std.specs.List.{AllByRecursion}
use Rattle.history_check.specs.Opened.{IsFresh}
use Rattle.history_check.proofs.replay.none_opened.Given as goal

abbrev pub invariant-loop-n : goal.invariant-loop-n
invariant-loop-n l = record {
  size : length l.opened.items ≡ l._n;
  fresh : AllByRecursion IsFresh l.opened.items;
}
