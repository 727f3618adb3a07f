use Rattle.std.proofs.Common.{◌≡◌, ◌≤◌, ◌-◌, Ok, length, IsTrue}
use Rattle.tx_events.specs.Pages.{member_page, member_place}
use Rattle.slru_bank.specs.Calls.{CallsBank, pages_of}
use Rattle.bank_stores.specs.Runs.{SetsMembers}
use Rattle.bank_stores.proofs.runs.write_members.Given as goal

abbrev pub invariant-loop-i : goal.invariant-loop-i
invariant-loop-i g l = record {
  within : l.i ≤ length l.members;
  sets : IsTrue g.P.PageDisk.tells → SetsMembers (member_page l.offset) (member_place l.offset) l.members l.i (pages_of l.fn.bank) (pages_of l.bank);
  untouched : l.i ≡ 0 → l.bank ≡ l.fn.bank;
  calls : 1 ≤ l.i → CallsBank (member_page l.offset) l.fn.bank l.bank (Ok (tt {0}));
}

abbrev pub decreases-loop-i : goal.decreases-loop-i
decreases-loop-i g l = length l.members - l.i
