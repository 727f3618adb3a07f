use Rattle.std.proofs.Common.{◌≡◌, take, map}
use Rattle.history_check.specs.Links.{id_at}
use Rattle.history_check.proofs.inside.ids_at.Given as goal

abbrev pub invariant-loop-place : goal.invariant-loop-place
invariant-loop-place l = l.ids.items ≡ map (id_at l.slots) (take l.place-index l.places)
