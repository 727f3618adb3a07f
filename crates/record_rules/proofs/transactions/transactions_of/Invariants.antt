use Rattle.std.proofs.Common.{◌≡◌, take}
use Rattle.record_rules.specs.Ends.{AreEnds}
use Rattle.record_rules.proofs.transactions.transactions_of.Given as goal

abbrev pub invariant-loop-event : goal.invariant-loop-event
invariant-loop-event l = record {
  sofar : l.replay.events ≡ take l.event-index l.events;
  base : l.replay.base ≡ l.base;
  sessions : l.replay.sessions ≡ 64;
  kept : AreEnds (take l.event-index l.events) l.ends;
}
