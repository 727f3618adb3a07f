use Rattle.std.proofs.Common.{◌↔◌, ℕ, drop}
use Rattle.place_columns.specs.OwnPlaces.{AnyPlace}
use Rattle.command_events.specs.Shapes.{IsPinNear}
use Rattle.command_events.proofs.pins.is_near_a_pin.Given as goal

abbrev pub invariant-loop-place : goal.invariant-loop-place
invariant-loop-place g l = AnyPlace (λ place. (multi : ℕ) × IsPinNear g.t.base g.t.all g.t.by l.m.number multi place) l.places ↔ AnyPlace (λ place. (multi : ℕ) × IsPinNear g.t.base g.t.all g.t.by l.m.number multi place) (drop l.place-index l.places)

abbrev pub ghost-means_some_at : goal.ghost-means_some_at
ghost-means_some_at g a = g.t
