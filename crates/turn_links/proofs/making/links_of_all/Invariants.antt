use Rattle.std.proofs.Common.{take}
use Rattle.turn_links.specs.Links.{AreAllLinks}
use Rattle.turn_links.proofs.making.links_of_all.Given as goal

abbrev pub invariant-loop-own : goal.invariant-loop-own
invariant-loop-own l = AreAllLinks (take l.own-index l.lists) l.all.items
