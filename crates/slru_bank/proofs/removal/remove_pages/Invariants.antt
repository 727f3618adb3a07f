use Rattle.std.proofs.Common.{◌≡◌, ◌≤◌, ◌<◌, ◌^◌, ℕ, true, None}
use Rattle.std.specs.Prelude.{IsTrue}
use Rattle.slru_bank.specs.Crash.{CrashLeaves}
use Rattle.slru_bank.specs.Removal.{removes, MayLack, IsPassed, pages_past}
use Rattle.slru_bank.proofs.removal.remove_pages.Given as goal

abbrev pub invariant-loop-page : goal.invariant-loop-page
invariant-loop-page g l = record {
  absent : IsTrue g.P.PageDisk.tells → (q : ℕ) → q < 2 ^ 32 → IsPassed l.last q → removes g.O.PageRule.shape g.O.PageRule.per_page l.removal q ≡ true → g.P.PageDisk.pages l.disk q ≡ None;
  others : IsTrue g.P.PageDisk.tells → MayLack (removes g.O.PageRule.shape g.O.PageRule.per_page l.removal) (g.P.PageDisk.pages l.fn.disk) (g.P.PageDisk.pages l.disk);
  crash : IsTrue g.P.PageDisk.tells → CrashLeaves (MayLack (removes g.O.PageRule.shape g.O.PageRule.per_page l.removal)) g.P.PageDisk.images g.P.PageDisk.moment g.P.PageDisk.left_at l.fn.disk l.disk;
  count : g.P.PageDisk.faults l.fn.disk ≤ g.P.PageDisk.faults l.disk;
}

abbrev pub decreases-loop-page : goal.decreases-loop-page
decreases-loop-page g l = pages_past l.last
