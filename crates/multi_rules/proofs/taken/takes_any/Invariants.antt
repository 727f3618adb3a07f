use Rattle.std.proofs.Common.{◌≡◌, [], take}
use Rattle.std.specs.List.{filter_map}
use Rattle.multi_rules.specs.Snapped.{taken_at}
use Rattle.multi_rules.proofs.taken.takes_any.Given as goal

abbrev pub invariant-loop-place : goal.invariant-loop-place
invariant-loop-place l = filter_map (taken_at l.snaps) (take l.place-index l.places) ≡ []
