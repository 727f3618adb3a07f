use Rattle.std.proofs.Common.{◌≡◌, ◌≤◌, ◌-◌, Ok, length, slice_index}
use Rattle.std.specs.Prelude.{IsTrue}
use Rattle.store_pages.specs.Layouts.{xact_page_of}
use Rattle.slru_bank.specs.Calls.{CallsBank, pages_of}
use Rattle.slru_bank.specs.States.{state_number}
use Rattle.slru_bank.specs.Changes.{SetsStates}
use Rattle.slru_bank.proofs.states.set_states.Given as goal

abbrev pub invariant-loop-i : goal.invariant-loop-i
invariant-loop-i g l = record {
  within : l.i ≤ length l.ids;
  sets : IsTrue g.P.PageDisk.tells → SetsStates l.ids l.i (state_number l.state) (pages_of l.fn.bank) (pages_of l.bank);
  untouched : l.i ≡ 0 → l.bank ≡ l.fn.bank;
  calls : 1 ≤ l.i → CallsBank (xact_page_of (slice_index l.ids 0)) l.fn.bank l.bank (Ok (tt {0}));
}

abbrev pub decreases-loop-i : goal.decreases-loop-i
decreases-loop-i g l = length l.ids - l.i
