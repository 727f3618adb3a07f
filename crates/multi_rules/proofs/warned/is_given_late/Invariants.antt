use Rattle.std.proofs.Common.{◌↔◌, drop}
use Rattle.place_columns.specs.OwnPlaces.{AnyPlace}
use Rattle.multi_rules.specs.Own.{GivesLate}
use Rattle.multi_rules.proofs.warned.is_given_late.Given as goal

abbrev pub invariant-loop-place : goal.invariant-loop-place
invariant-loop-place g l = AnyPlace (GivesLate l.places.base l.places.events g.by l.multi) l.its ↔ AnyPlace (GivesLate l.places.base l.places.events g.by l.multi) (drop l.place-index l.its)

abbrev pub ghost-gives_late : goal.ghost-gives_late
ghost-gives_late g a = g.by
