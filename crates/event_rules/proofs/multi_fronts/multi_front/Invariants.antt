use Rattle.std.proofs.Common.{◌≡◌, take}
use Rattle.event_rules.proofs.multi_fronts.multi_front.Given as goal

abbrev pub invariant-loop-event : goal.invariant-loop-event
invariant-loop-event l = record {
  sofar : l.places.events ≡ take l.event-index l.multis;
  base : l.places.base ≡ l.fn.base;
  starts : l.places.starts ≡ l.starts;
}
