-- The locks by their numbers, and the lock under which a number's page lies.
use Rattle.std.specs.Prelude.{ℕ, ◌+◌, ◌*◌, ◌%◌, ◌≤◌, ◌<◌}
use Rattle.tx_events.specs.Ids.{low_half}
pub use Rattle.tx_events.specs.Pages.{member_page, member_page_in_full, offset_page, subtrans_page, xact_page}
use Rattle.tx_events.specs.declared.refusal.Lock.{Lock}
use Rattle.tx_events.specs.declared.refusal.Lock.TheVariants as locks
use Rattle.tx_core.specs.declared.entry.Start.{Start}

abbrev pub log_lock : ℕ
log_lock = 0

abbrev pub proc_lock : ℕ
proc_lock = 1

abbrev pub multi_lock : ℕ
multi_lock = 2

-- bank by bank, one lock for each of the four stores
abbrev pub xact_lock : ℕ → ℕ
xact_lock bank = 3 + 4 * bank

abbrev pub subtrans_lock : ℕ → ℕ
subtrans_lock bank = 4 + 4 * bank

abbrev pub offsets_lock : ℕ → ℕ
offsets_lock bank = 5 + 4 * bank

abbrev pub members_lock : ℕ → ℕ
members_lock bank = 6 + 4 * bank

abbrev pub number_of : Lock → ℕ
number_of locks.Log = log_lock
number_of locks.Proc = proc_lock
number_of locks.Multi = multi_lock
number_of (locks.Xact bank) = xact_lock bank
number_of (locks.Subtrans bank) = subtrans_lock bank
number_of (locks.Offsets bank) = offsets_lock bank
number_of (locks.Members bank) = members_lock bank

-- The lists behind those of the banks: the published oldest id, the published oldest xmin, and the sessions' requests.
abbrev pub oldest_word : Start → ℕ
oldest_word start = 3 + 4 * start.banks

abbrev pub xmin_word : Start → ℕ
xmin_word start = 4 + 4 * start.banks

abbrev pub first_request : Start → ℕ
first_request start = 5 + 4 * start.banks

-- the lock of a bank of one of the four stores
pub record IsPageLock (start : Start) (lock : ℕ) : Type 0 where
  pub from : 3 ≤ lock
  pub to : lock < 3 + 4 * start.banks

-- A page as it is stored, and so its bank and its lock, goes by the low half of a number.

-- the lock under which an id's state lies
abbrev pub xact_lock_of : Start → ℕ → ℕ
xact_lock_of start id = xact_lock (xact_page (low_half id) % start.banks)

-- its parent
abbrev pub subtrans_lock_of : Start → ℕ → ℕ
subtrans_lock_of start id = subtrans_lock (subtrans_page (low_half id) % start.banks)

-- the offset of a multixact
abbrev pub offsets_lock_of : Start → ℕ → ℕ
offsets_lock_of start multi = offsets_lock (offset_page (low_half multi) % start.banks)

-- the member at an offset
abbrev pub members_lock_of : Start → ℕ → ℕ
members_lock_of start offset = members_lock (member_page (low_half offset) % start.banks)
