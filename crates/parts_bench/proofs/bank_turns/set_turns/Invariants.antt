use Rattle.std.proofs.Common.{◌≡◌, ℕ, ◌≤◌}
use Rattle.std.specs.Prelude.{IsTrue}
use Rattle.slru_bank.specs.Calls.{pages_of}
use Rattle.parts_bench.proofs.bank_turns.set_turns.Given as goal

abbrev pub invariant-loop-i : goal.invariant-loop-i
invariant-loop-i g l = IsTrue g.P.PageDisk.tells → (q : ℕ) → l.pages ≤ q → pages_of l.bank q ≡ pages_of l.fn.bank q
