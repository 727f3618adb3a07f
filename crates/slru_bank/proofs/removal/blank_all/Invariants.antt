use Rattle.std.proofs.Common.{◌≡◌, ◌≤◌, ◌-◌, length}
use Rattle.disk_core.specs.Pages.{Pages}
use Rattle.slru_bank.specs.Bank.{map_of, Distinct, AllAgree}
use Rattle.slru_bank.specs.Removal.{removes, BlankUpTo, MayDrop}
use Rattle.slru_bank.proofs.removal.blank_all.Given as goal

abbrev pub invariant-loop-i : goal.invariant-loop-i
invariant-loop-i g l = record {
  long : length l.buffers ≡ length l.fn.buffers;
  within : l.i ≤ length l.buffers;
  blank : BlankUpTo (removes g.O.PageRule.shape g.O.PageRule.per_page l.removal) l.i l.buffers;
  distinct : Distinct l.buffers;
  agree : (pages : Pages) → AllAgree pages l.fn.buffers → AllAgree pages l.buffers;
  map : (pages : Pages) → MayDrop (removes g.O.PageRule.shape g.O.PageRule.per_page l.removal) (map_of pages l.fn.buffers) (map_of pages l.buffers);
}

abbrev pub decreases-loop-i : goal.decreases-loop-i
decreases-loop-i g l = length l.buffers - l.i
