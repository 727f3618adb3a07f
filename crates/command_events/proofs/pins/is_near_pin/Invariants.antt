use Rattle.std.proofs.Common.{◌↔◌, drop}
use Rattle.place_columns.specs.OwnPlaces.{AnyPlace}
use Rattle.command_events.specs.Shapes.{IsPinNear}
use Rattle.command_events.proofs.pins.is_near_pin.Given as goal

abbrev pub invariant-loop-place : goal.invariant-loop-place
invariant-loop-place g l = AnyPlace (IsPinNear g.t.base g.t.all g.t.by l.m.number l.multi) l.places ↔ AnyPlace (IsPinNear g.t.base g.t.all g.t.by l.m.number l.multi) (drop l.place-index l.places)

abbrev pub ghost-means_at : goal.ghost-means_at
ghost-means_at g a = g.t
