use Rattle.std.proofs.Common.{◌≡◌, ◌+◌, ◌++◌, ◌≤◌, ◌-◌, Ok, length, IsTrue, vec_capacity}
use Rattle.tx_events.specs.Pages.{member_page, member_place}
use Rattle.slru_bank.specs.Calls.{CallsBank, SamePages, pages_of}
use Rattle.bank_stores.specs.Runs.{slots_on}
use Rattle.bank_stores.proofs.runs.read_members.Given as goal

abbrev pub invariant-loop-i : goal.invariant-loop-i
invariant-loop-i g l = record {
  within : l.i ≤ l.count;
  long : length l.into.items ≡ length l.fn.into.items + l.i;
  room : vec_capacity l.into ≡ vec_capacity l.fn.into;
  slots : IsTrue g.P.PageDisk.tells → l.into.items ≡ l.fn.into.items ++ slots_on (pages_of l.fn.bank (member_page l.offset)) (member_place l.offset) l.i;
  same : IsTrue g.P.PageDisk.tells → SamePages l.fn.bank l.bank;
  untouched : l.i ≡ 0 → l.bank ≡ l.fn.bank;
  none_yet : l.i ≡ 0 → l.into.items ≡ l.fn.into.items;
  calls : 1 ≤ l.i → CallsBank (member_page l.offset) l.fn.bank l.bank (Ok (tt {0}));
}

abbrev pub decreases-loop-i : goal.decreases-loop-i
decreases-loop-i g l = l.count - l.i
