use Rattle.std.proofs.Common.{◌≡◌, take}
use Rattle.place_columns.specs.Columns.{IsColumn}
use Rattle.place_columns.specs.Lined.{most_of}
use Rattle.place_columns.proofs.columns.running_most.Given as goal

abbrev pub invariant-loop-value : goal.invariant-loop-value
invariant-loop-value l = record {
  greatest : l.most ≡ most_of (take l.value-index l.values);
  columned : IsColumn most_of (take l.value-index l.values) l.column.items;
}
