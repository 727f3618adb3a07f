use Rattle.std.proofs.Common.{◌≡◌, List, Option, length, take}
use Rattle.tx_events.specs.declared.event.By.{By}
use Rattle.tx_events.specs.declared.snapshot.SnapData.{SnapData}
use Rattle.history_places.specs.SnapMarks.{AreSnapMarks}
use Rattle.history_places.specs.Opens.{AreOpenCounts}
use Rattle.event_rules.specs.Fronts.{AreTold}
use Rattle.event_rules.proofs.front.history_front.Given as goal

abbrev pub invariant-loop-place : goal.invariant-loop-place
invariant-loop-place l = record {
  sofar : l.places.events ≡ take l.place l.events;
  base : l.places.base ≡ l.fn.base;
  sessions : l.places.sessions ≡ l.fn.sessions;
  marks : (told_by : By → Option SnapData) → AreTold told_by l.events l.own.numbers l.lists → AreSnapMarks l.fn.base.next l.places.events told_by l.snaps.items;
  opened : AreOpenCounts l.places.events l.opened.items;
}
