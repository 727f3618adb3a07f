use Rattle.std.proofs.Common.{length, ◌-◌, ◌≤◌, take}
use Rattle.tx_events.specs.LifeBase.{committed_in}
use Rattle.replay_core.specs.Redo.{NamesNone}
use Rattle.replay_core.proofs.empty.name_none.Given as goal

abbrev pub invariant-loop-i : goal.invariant-loop-i
invariant-loop-i l = record {
  within : l.i ≤ length l.recs;
  none : NamesNone l.share l.oldest (committed_in (take l.i l.recs));
}

abbrev pub decreases-loop-i : goal.decreases-loop-i
decreases-loop-i l = length l.recs - l.i
