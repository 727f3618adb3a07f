use Rattle.std.proofs.Common.{◌≡◌, ◌≤◌, ◌-◌, length}
use Rattle.std.specs.Prelude.{IsTrue}
use Rattle.slru_bank.specs.Bank.{Distinct, CleanUpTo, StaysUp, map_of}
use Rattle.slru_bank.specs.Crash.{CrashLeaves, IsMixture}
use Rattle.slru_bank.proofs.buffers.write_all.Given as goal

abbrev pub invariant-loop-i : goal.invariant-loop-i
invariant-loop-i g l = record {
  long : length l.buffers ≡ length l.fn.buffers;
  within : l.i ≤ length l.buffers;
  clean : CleanUpTo l.i l.buffers;
  distinct : Distinct l.buffers;
  stays : IsTrue g.P.PageDisk.tells → StaysUp (g.P.PageDisk.pages l.fn.disk) (g.P.PageDisk.pages l.disk) l.fn.buffers l.buffers;
  crash : IsTrue g.P.PageDisk.tells → CrashLeaves (IsMixture (map_of (g.P.PageDisk.pages l.fn.disk) l.fn.buffers) (map_of (g.P.PageDisk.pages l.fn.disk) l.fn.buffers)) g.P.PageDisk.images g.P.PageDisk.moment g.P.PageDisk.left_at l.fn.disk l.disk;
  count : g.P.PageDisk.faults l.fn.disk ≤ g.P.PageDisk.faults l.disk;
}

abbrev pub decreases-loop-i : goal.decreases-loop-i
decreases-loop-i g l = length l.buffers - l.i
