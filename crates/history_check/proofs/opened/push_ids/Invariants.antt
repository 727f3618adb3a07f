use Rattle.std.proofs.Common.{◌≡◌, ◌++◌, take}
use Rattle.history_check.specs.Links.{opens}
use Rattle.history_check.specs.Opened.{opened_ids}
use Rattle.history_check.proofs.opened.push_ids.Given as goal

abbrev pub invariant-loop-slot : goal.invariant-loop-slot
invariant-loop-slot l = l.ids.items ≡ l.fn.ids.items ++ opened_ids (opens (take l.slot-index l.slots))
