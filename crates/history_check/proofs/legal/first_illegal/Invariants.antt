use Rattle.std.proofs.Common.{◌≡◌, take}
use Rattle.history_check.proofs.legal.first_illegal.Given as goal

abbrev pub invariant-loop-place : goal.invariant-loop-place
invariant-loop-place l = record {
  sofar : l.replay.events ≡ take l.place l.events;
  base : l.replay.base ≡ l.fn.base;
  sessions : l.replay.sessions ≡ l.sessions;
}
