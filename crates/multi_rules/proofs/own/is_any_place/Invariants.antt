use Rattle.std.proofs.Common.{◌↔◌, drop}
use Rattle.place_columns.specs.OwnPlaces.{AnyPlace}
use Rattle.multi_rules.specs.Own.{PinsOrRaises}
use Rattle.multi_rules.proofs.own.is_any_place.Given as goal

abbrev pub invariant-loop-place : goal.invariant-loop-place
invariant-loop-place g l = AnyPlace (PinsOrRaises g.o.base g.o.all g.o.by l.multi) l.places ↔ AnyPlace (PinsOrRaises g.o.base g.o.all g.o.by l.multi) (drop l.place-index l.places)

abbrev pub ghost-pins_or_raises : goal.ghost-pins_or_raises
ghost-pins_or_raises g a = g.o
