use Rattle.std.proofs.Common.{◌≡◌, length}
use Rattle.turn_links.specs.Links.{AreLinks}
use Rattle.turn_links.proofs.making.links_of.Given as goal

abbrev pub invariant-loop-place : goal.invariant-loop-place
invariant-loop-place l = record {
  size : length l.links.items ≡ l.place;
  links : AreLinks l.own l.links.items;
}

abbrev pub ghost-link_of : goal.ghost-link_of
ghost-link_of a = a.own.now
