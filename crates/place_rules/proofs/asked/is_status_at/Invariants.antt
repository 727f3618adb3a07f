use Rattle.place_rules.specs.Runs.{IsStatusHere}
use Rattle.place_rules.proofs.Looking.{NoneSoFar}
use Rattle.place_rules.proofs.asked.is_status_at.Given as goal

abbrev pub ghost-stood_so : goal.ghost-stood_so
ghost-stood_so g a = g.asking

abbrev pub invariant-loop-place : goal.invariant-loop-place
invariant-loop-place g l = record {
  none : NoneSoFar (IsStatusHere l.places.base g.asking.ids l.places.events g.asking.by l.x l.status) l.run l.place-index;
}
