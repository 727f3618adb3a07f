use Rattle.place_rules.specs.Runs.{IsDidHere}
use Rattle.place_rules.proofs.SnapsRead.{NoneUpTo}
use Rattle.place_rules.proofs.did.is_did_at.Given as goal

abbrev pub ghost-is_right_answer : goal.ghost-is_right_answer
ghost-is_right_answer g a = g.did

abbrev pub invariant-loop-place : goal.invariant-loop-place
invariant-loop-place g l = record {
  none : NoneUpTo (IsDidHere l.places.base g.did.ids l.places.events g.did.recs l.from l.x.number l.yes) l.from l.place;
}
