use Rattle.std.proofs.Common.{length, ◌-◌, ◌≤◌, Ok, take}
use Rattle.replay_multis.specs.Named.{IsOffsetByte}
use Rattle.replay_multis.specs.Steps.{RedoesBank}
use Rattle.replay_multis.proofs.redo_offsets.redo_offsets.Given as goal

abbrev pub invariant-loop-i : goal.invariant-loop-i
invariant-loop-i g l = record {
  within : l.i ≤ length l.recs;
  redone : RedoesBank (IsOffsetByte l.share l.oldest (take l.i l.recs)) l.fn.bank l.bank (Ok (tt {0}));
}

abbrev pub decreases-loop-i : goal.decreases-loop-i
decreases-loop-i g l = length l.recs - l.i
