use Rattle.std.proofs.Common.{ℕ, take}
use Rattle.history_places.specs.Told.{next_in}
use Rattle.place_rules.specs.Members.{HasOld}
use Rattle.place_rules.proofs.SnapsRead.{NoneUpTo}
use Rattle.place_rules.proofs.members.is_old_member.Given as goal

abbrev pub invariant-loop-place : goal.invariant-loop-place
invariant-loop-place g l = record {
  none : NoneUpTo (λ (p : ℕ). HasOld (next_in l.places.base (take p l.places.events)) l.pairs l.oldest) l.from l.place;
}
