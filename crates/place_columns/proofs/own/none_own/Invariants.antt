use Rattle.std.proofs.Common.{◌≡◌, [], length}
use Rattle.std.specs.Global.{Vec}
use Rattle.std.specs.List.{AllByRecursion}
use Rattle.place_columns.specs.declared.own.Own.{Own}
use Rattle.place_columns.proofs.own.none_own.Given as goal

abbrev pub invariant-loop-n : goal.invariant-loop-n
invariant-loop-n l = record {
  size : length l.lists.items ≡ l._n;
  empty : AllByRecursion (λ (v : Vec Own). v.items ≡ []) l.lists.items;
}
