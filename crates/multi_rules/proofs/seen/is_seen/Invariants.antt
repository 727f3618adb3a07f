use Rattle.std.proofs.Common.{◌-◌, ◌≤◌, length}
use Rattle.multi_rules.proofs.Showing.{NoneShow}
use Rattle.multi_rules.proofs.seen.is_seen.Given as goal

abbrev pub ghost-shows_so : goal.ghost-shows_so
ghost-shows_so g a = g.seeing.ids

abbrev pub invariant-loop-from : goal.invariant-loop-from
invariant-loop-from g l = record {
  within : l.from ≤ length l.taken;
  none : NoneShow l.places.base g.seeing.ids l.places.events l.taken l.x.number l.visible l.from;
}

abbrev pub decreases-loop-from : goal.decreases-loop-from
decreases-loop-from g l = length l.taken - l.from
