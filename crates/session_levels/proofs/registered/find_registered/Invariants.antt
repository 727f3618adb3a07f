use Rattle.std.proofs.Common.{◌≡◌, take, None}
use Rattle.std.specs.List.{find}
use Rattle.tx_events.specs.Events.{same_name}
use Rattle.session_levels.proofs.registered.find_registered.Given as goal

abbrev pub invariant-loop-k : goal.invariant-loop-k
invariant-loop-k l = find (λ x. same_name x.name l.name) (take l.k-index l.registered) ≡ None
