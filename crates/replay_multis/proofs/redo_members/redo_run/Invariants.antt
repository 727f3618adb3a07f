use Rattle.std.proofs.Common.{length, ◌-◌, ◌≤◌, Ok, take}
use Rattle.replay_multis.specs.Named.{IsRunByte}
use Rattle.replay_multis.specs.Steps.{RedoesBank}
use Rattle.replay_multis.proofs.redo_members.redo_run.Given as goal

abbrev pub invariant-loop-i : goal.invariant-loop-i
invariant-loop-i g l = record {
  within : l.i ≤ length l.members;
  redone : RedoesBank (IsRunByte l.share l.low l.offset (take l.i l.members)) l.fn.bank l.bank (Ok (tt {0}));
}

abbrev pub decreases-loop-i : goal.decreases-loop-i
decreases-loop-i g l = length l.members - l.i
