use Rattle.std.proofs.Common.{◌≡◌, take, map}
use Rattle.history_check.specs.GivenIds.{with_place}
use Rattle.history_check.specs.Links.{opens}
use Rattle.history_check.specs.Opened.{opened_ids}
use Rattle.history_check.proofs.given.mark_all.Given as goal

abbrev pub invariant-loop-slot : goal.invariant-loop-slot
invariant-loop-slot l = l.items ≡ map (with_place (opened_ids (opens (take l.slot-index l.slots))) l.place) l.fn.items
