use Rattle.place_rules.specs.Runs.{IsFutureHere}
use Rattle.place_rules.proofs.Looking.{NoneSoFar}
use Rattle.place_rules.proofs.asked.is_future_at.Given as goal

abbrev pub ghost-asks_before : goal.ghost-asks_before
ghost-asks_before g a = g.by

abbrev pub invariant-loop-place : goal.invariant-loop-place
invariant-loop-place g l = record {
  none : NoneSoFar (IsFutureHere l.places.base l.places.events g.by l.next) l.run l.place-index;
}
