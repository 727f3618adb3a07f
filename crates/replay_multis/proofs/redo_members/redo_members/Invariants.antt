use Rattle.std.proofs.Common.{length, ◌-◌, ◌≤◌, Ok, take}
use Rattle.replay_multis.specs.Named.{IsMemberByte}
use Rattle.replay_multis.specs.Steps.{RedoesBank}
use Rattle.replay_multis.proofs.redo_members.redo_members.Given as goal

abbrev pub invariant-loop-i : goal.invariant-loop-i
invariant-loop-i g l = record {
  within : l.i ≤ length l.recs;
  redone : RedoesBank (IsMemberByte l.share l.span.oldest l.span.oldest_offset (take l.i l.recs)) l.fn.bank l.bank (Ok (tt {0}));
}

abbrev pub decreases-loop-i : goal.decreases-loop-i
decreases-loop-i g l = length l.recs - l.i
