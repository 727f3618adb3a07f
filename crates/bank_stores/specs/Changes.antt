-- What a change of members does to the pages.
use Rattle.std.specs.Prelude.{◌≡◌, ◌≢◌, ℕ, ◌<◌, ◌≤◌, ◌^◌, true, false, List, slice_index}
use Rattle.disk_core.specs.Pages.{zero_page}
use Rattle.tx_events.specs.PageOrder.{Offsets, page_precedes}
use Rattle.store_pages.specs.Layouts.{number_in}
use Rattle.tx_events.specs.Pages.{id_at, members_per_page, mode_at}
use Rattle.slru_bank.specs.Bank.{OthersStay, StaysAPage}

-- the k-th slot of a page is the same on two pages
pub record SameSlot (k : ℕ) (old new : List ℕ) : Type 0 where
  pub mode : slice_index new (mode_at k) ≡ slice_index old (mode_at k)
  pub id : number_in new (id_at k) ≡ number_in old (id_at k)

-- the place-th slot of one page has this mode and id, and all other slots and the bytes past the last one are as they were
pub record SetsMember (page place byte number : ℕ) (old new : ℕ → List ℕ) : Type 0 where
  pub mode : slice_index (new page) (mode_at place) ≡ byte
  pub id : number_in (new page) (id_at place) ≡ number
  pub same_page : (k : ℕ) → k < members_per_page → k ≢ place → SameSlot k (old page) (new page)
  pub tail : (i : ℕ) → 8180 ≤ i → slice_index (new page) i ≡ slice_index (old page) i
  pub pages : StaysAPage page old new
  pub others : OthersStay page old new

-- on one page all bytes from the place-th slot's id on are 0, those before it as they were, and all pages that come after
-- it are 0
pub record TrimsMembers (page place : ℕ) (old new : ℕ → List ℕ) : Type 0 where
  pub kept : (k : ℕ) → k < place → SameSlot k (old page) (new page)
  pub before : (i : ℕ) → i < id_at place → slice_index (new page) i ≡ slice_index (old page) i
  pub past : (i : ℕ) → id_at place ≤ i → slice_index (new page) i ≡ 0
  pub cleared : (k : ℕ) → place ≤ k → k < members_per_page → number_in (new page) (id_at k) ≡ 0
  pub zeros : (q : ℕ) → q < 2 ^ 32 → page_precedes Offsets members_per_page page q ≡ true → new q ≡ zero_page
  pub stay : (q : ℕ) → q ≢ page → page_precedes Offsets members_per_page page q ≡ false → new q ≡ old q
