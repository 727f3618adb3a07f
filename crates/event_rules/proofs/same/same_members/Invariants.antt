use Rattle.std.proofs.Common.{◌≡◌, drop}
use Rattle.event_rules.specs.Same.{same_members}
use Rattle.event_rules.proofs.same.same_members.Given as goal

abbrev pub invariant-loop-place : goal.invariant-loop-place
invariant-loop-place l = same_members l.a l.b ≡ same_members (drop l.place l.a) (drop l.place l.b)
