use Rattle.std.proofs.Common.{length, ◌-◌, ◌≤◌, Ok, take}
use Rattle.tx_events.specs.LifeBase.{committed_in}
use Rattle.replay_core.specs.Redo.{IsNamed, RedoesBank}
use Rattle.replay_core.proofs.redo.redo_records.Given as goal

abbrev pub invariant-loop-i : goal.invariant-loop-i
invariant-loop-i g l = record {
  within : l.i ≤ length l.recs;
  redone : RedoesBank (IsNamed l.share l.oldest (committed_in (take l.i l.recs))) l.fn.bank l.bank (Ok (tt {0}));
}

abbrev pub decreases-loop-i : goal.decreases-loop-i
decreases-loop-i g l = length l.recs - l.i
