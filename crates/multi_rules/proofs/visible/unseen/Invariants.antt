use Rattle.std.proofs.Common.{◌≤◌, ◌-◌, length}
use Rattle.multi_rules.proofs.Unseen.{AllSeen, AllUnseen}
use Rattle.multi_rules.proofs.visible.unseen.Given as goal

abbrev pub ghost-was_visible : goal.ghost-was_visible
ghost-was_visible g a = g.ids

abbrev pub invariant-loop-from : goal.invariant-loop-from
invariant-loop-from g l = record {
  order : l.from ≤ l.end;
  within : l.end ≤ length l.taken;
  front : AllUnseen l.places.base g.ids l.places.events l.id l.taken l.from;
  behind : AllSeen l.places.base g.ids l.places.events l.id l.taken l.end;
}

abbrev pub decreases-loop-from : goal.decreases-loop-from
decreases-loop-from g l = l.end - l.from
