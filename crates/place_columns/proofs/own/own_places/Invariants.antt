use Rattle.std.proofs.Common.{take}
use Rattle.place_columns.specs.Owned.{AreAllOwn}
use Rattle.place_columns.proofs.own.own_places.Given as goal

abbrev pub invariant-loop-place : goal.invariant-loop-place
invariant-loop-place l = record {
  listed : AreAllOwn (take l.place l.bys) l.sessions l.lists.items;
}
