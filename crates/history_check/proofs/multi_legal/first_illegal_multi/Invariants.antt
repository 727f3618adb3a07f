use Rattle.std.proofs.Common.{◌≡◌, take}
use Rattle.history_check.proofs.multi_legal.first_illegal_multi.Given as goal

abbrev pub invariant-loop-place : goal.invariant-loop-place
invariant-loop-place l = record {
  sofar : l.multis.events ≡ take l.place l.events;
  base : l.multis.base ≡ l.fn.base;
}
