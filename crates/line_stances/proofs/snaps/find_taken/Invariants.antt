use Rattle.std.proofs.Common.{◌≡◌, take, None}
use Rattle.std.specs.List.{find}
use Rattle.tx_events.specs.Events.{same_name}
use Rattle.line_stances.proofs.snaps.find_taken.Given as goal

abbrev pub invariant-loop-t : goal.invariant-loop-t
invariant-loop-t l = find (λ x. same_name x.name l.name) (take l.t-index l.items) ≡ None
