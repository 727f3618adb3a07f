use Rattle.place_rules.specs.Runs.{IsOlderThere}
use Rattle.place_rules.proofs.SnapsRead.{NoneUpTo}
use Rattle.place_rules.proofs.did.is_did_too_old.Given as goal

abbrev pub invariant-loop-place : goal.invariant-loop-place
invariant-loop-place g l = record {
  none : NoneUpTo (IsOlderThere l.places.base l.places.events l.x.number l.oldest) l.from l.place;
}
