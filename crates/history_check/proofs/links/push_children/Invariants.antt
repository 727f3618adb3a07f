use Rattle.history_check.specs.Links.{id_at}
use Rattle.history_check.proofs.Children.{IsWalked, left}
use Rattle.history_check.proofs.links.push_children.Given as goal

abbrev pub invariant-loop-next : goal.invariant-loop-next
invariant-loop-next l = IsWalked l.slots (id_at l.slots l.place) l.next l.fn.found.items l.found.items

abbrev pub decreases-loop-next : goal.decreases-loop-next
decreases-loop-next l = left l.next
