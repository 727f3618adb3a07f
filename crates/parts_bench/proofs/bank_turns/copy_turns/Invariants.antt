use Rattle.std.proofs.Common.{◌≡◌, ◌*◌, length}
use Rattle.parts_bench.proofs.bank_turns.copy_turns.Given as goal

abbrev pub invariant-loop-i : goal.invariant-loop-i
invariant-loop-i l = (length l.from ≡ l.pages * 8192) × (length l.to ≡ l.pages * 8192) × (l.found ≡ l.i)
