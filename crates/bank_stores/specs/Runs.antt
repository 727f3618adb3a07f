-- Members whose slots stand one behind the other on one page.
use Rattle.std.specs.Prelude.{◌≡◌, ◌≢◌, ℕ, zero, suc, ◌+◌, ◌<◌, ◌≤◌, List, [], ◌∷◌, Some, slice_get, slice_index}
use Rattle.tx_events.specs.Ids.{low_half}
use Rattle.tx_events.specs.Modes.{mode_number}
use Rattle.tx_events.specs.declared.multi.Member.{Member}
use Rattle.store_pages.specs.Layouts.{number_in}
use Rattle.tx_events.specs.Pages.{id_at, members_per_page, mode_at}
use Rattle.slru_bank.specs.Bank.{OthersStay, StaysAPage}
use Rattle.bank_stores.specs.Changes.{SameSlot}
use Rattle.bank_stores.specs.Slots.{slot_of}
use Rattle.bank_stores.specs.declared.slot.Slot.{Slot}

-- The first n of these members have the slots of one page from the place-th on, and all other slots and the bytes past the
-- last one are as they were.
pub record SetsMembers (page place : ℕ) (members : List Member) (n : ℕ) (old new : ℕ → List ℕ) : Type 0 where
  pub mode : (k : ℕ) (member : Member) → k < n → slice_get members k ≡ Some member
      → slice_index (new page) (mode_at (place + k)) ≡ mode_number member.mode
  pub id : (k : ℕ) (member : Member) → k < n → slice_get members k ≡ Some member
      → number_in (new page) (id_at (place + k)) ≡ low_half member.id
  pub same_page : (k : ℕ) → k < members_per_page → ((j : ℕ) → j < n → k ≢ place + j) → SameSlot k (old page) (new page)
  pub tail : (i : ℕ) → 8180 ≤ i → slice_index (new page) i ≡ slice_index (old page) i
  pub pages : 1 ≤ n → StaysAPage page old new
  pub others : OthersStay page old new

-- what stands in so many slots of a page from the place-th on
abbrev pub slots_on : List ℕ → ℕ → ℕ → List Slot
slots_on bytes place zero = []
slots_on bytes place (suc n) =
    slot_of (slice_index bytes (mode_at place)) (number_in bytes (id_at place)) ∷ slots_on bytes (place + 1) n
