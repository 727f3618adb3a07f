use Rattle.std.proofs.Common.{◌≤◌}
use Rattle.std.specs.Prelude.{IsTrue}
use Rattle.slru_bank.specs.Calls.{SamePages}
use Rattle.parts_bench.proofs.bank_turns.read_turns.Given as goal

abbrev pub invariant-loop-i : goal.invariant-loop-i
invariant-loop-i g l = (l.found ≤ l.i) × (IsTrue g.P.PageDisk.tells → SamePages l.fn.bank l.bank)
