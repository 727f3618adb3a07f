use Rattle.std.proofs.Common.{ℕ, take}
use Rattle.history_places.specs.Told.{next_in}
use Rattle.place_rules.specs.Members.{HasUngiven}
use Rattle.place_rules.proofs.SnapsRead.{NoneUpTo}
use Rattle.place_rules.proofs.members.is_not_given.Given as goal

abbrev pub invariant-loop-place : goal.invariant-loop-place
invariant-loop-place g l = record {
  none : NoneUpTo (λ (p : ℕ). HasUngiven (next_in l.places.base (take p l.places.events)) l.pairs l.x.number) l.from l.place;
}
