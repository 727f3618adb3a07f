use Rattle.std.proofs.Common.{◌≡◌, ◌≤◌, ◌-◌, length}
use Rattle.disk_core.specs.Pages.{Pages}
use Rattle.slru_bank.specs.Bank.{map_of, Distinct, AllAgree}
use Rattle.slru_bank.specs.Crash.{SameMap}
use Rattle.slru_bank.specs.Removal.{removes, AllBlank, AllAbsent, KeepUpTo}
use Rattle.slru_bank.proofs.removal.empty_all.Given as goal

abbrev pub invariant-loop-i : goal.invariant-loop-i
invariant-loop-i g l = record {
  long : length l.buffers ≡ length l.fn.buffers;
  within : l.i ≤ length l.buffers;
  keep : KeepUpTo (removes g.O.PageRule.shape g.O.PageRule.per_page l.removal) l.i l.buffers;
  distinct : Distinct l.buffers;
  blank : AllBlank (removes g.O.PageRule.shape g.O.PageRule.per_page l.removal) l.buffers;
  agree : (pages : Pages) → AllAgree pages l.fn.buffers → AllAgree pages l.buffers;
  map : (pages : Pages) → AllAbsent (removes g.O.PageRule.shape g.O.PageRule.per_page l.removal) pages → SameMap (map_of pages l.fn.buffers) (map_of pages l.buffers);
}

abbrev pub decreases-loop-i : goal.decreases-loop-i
decreases-loop-i g l = length l.buffers - l.i
