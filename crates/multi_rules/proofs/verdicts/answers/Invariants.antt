use Rattle.std.proofs.Common.{◌↔◌, drop}
use Rattle.multi_rules.specs.Telling.{AnyOf, IsAnswered}
use Rattle.multi_rules.proofs.verdicts.answers.Given as goal

abbrev pub ghost-answers_at : goal.ghost-answers_at
ghost-answers_at g a = g.of

abbrev pub invariant-loop-place : goal.invariant-loop-place
invariant-loop-place g l = AnyOf (IsAnswered l.places.base l.places.events g.of l.told l.multis.events) l.pins ↔ AnyOf (IsAnswered l.places.base l.places.events g.of l.told l.multis.events) (drop l.place-index l.pins)
