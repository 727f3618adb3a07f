use Rattle.std.proofs.Common.{length, ◌-◌, ◌≤◌, take}
use Rattle.replay_core.specs.Redo.{NamesNone}
use Rattle.replay_core.proofs.empty.are_other.Given as goal

abbrev pub invariant-loop-i : goal.invariant-loop-i
invariant-loop-i l = record {
  within : l.i ≤ length l.ids;
  none : NamesNone l.share l.oldest (take l.i l.ids);
}

abbrev pub decreases-loop-i : goal.decreases-loop-i
decreases-loop-i l = length l.ids - l.i
