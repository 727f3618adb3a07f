use Rattle.place_rules.specs.Runs.{IsWarnedHere}
use Rattle.place_rules.proofs.Looking.{NoneSoFar}
use Rattle.place_rules.proofs.asked.is_warned.Given as goal

abbrev pub ghost-warns : goal.ghost-warns
ghost-warns g a = g.by

abbrev pub invariant-loop-place : goal.invariant-loop-place
invariant-loop-place g l = record {
  none : NoneSoFar (IsWarnedHere l.places.base l.places.events g.by) l.run l.place-index;
}
