use Rattle.std.proofs.Common.{length, ◌-◌, ◌≤◌, Ok, take}
use Rattle.replay_core.specs.Redo.{IsNamed, RedoesBank}
use Rattle.replay_core.proofs.redo.redo_ids.Given as goal

abbrev pub invariant-loop-i : goal.invariant-loop-i
invariant-loop-i g l = record {
  within : l.i ≤ length l.ids;
  redone : RedoesBank (IsNamed l.share l.oldest (take l.i l.ids)) l.fn.bank l.bank (Ok (tt {0}));
}

abbrev pub decreases-loop-i : goal.decreases-loop-i
decreases-loop-i g l = length l.ids - l.i
