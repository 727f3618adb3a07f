use Rattle.history_check.proofs.Insides.{IsSearched}
use Rattle.history_check.proofs.inside.places_inside.Given as goal

abbrev pub invariant-loop-next : goal.invariant-loop-next
invariant-loop-next l = IsSearched l.table.events l.fn.id l.slots l.next l.found.items
