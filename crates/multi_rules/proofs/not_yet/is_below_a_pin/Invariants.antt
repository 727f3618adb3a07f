use Rattle.std.proofs.Common.{◌↔◌, drop}
use Rattle.place_columns.specs.OwnPlaces.{AnyPlace}
use Rattle.multi_rules.specs.Gens.{IsAboveAt}
use Rattle.multi_rules.proofs.not_yet.is_below_a_pin.Given as goal

abbrev pub invariant-loop-place : goal.invariant-loop-place
invariant-loop-place g l = AnyPlace (IsAboveAt g.w.base g.w.all g.w.by l.multi) l.places ↔ AnyPlace (IsAboveAt g.w.base g.w.all g.w.by l.multi) (drop l.place-index l.places)

abbrev pub ghost-is_below_at : goal.ghost-is_below_at
ghost-is_below_at g a = g.w
