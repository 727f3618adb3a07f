-- What a change of states does to the pages.
use Rattle.std.specs.Prelude.{◌≡◌, ◌≢◌, ℕ, ◌<◌, ◌≤◌, ◌^◌, true, false, List, length, slice_index}
use Rattle.disk_core.specs.Pages.{zero_page}
use Rattle.tx_events.specs.PageOrder.{Ids, page_precedes}
use Rattle.store_pages.specs.Layouts.{state_in, xact_page_of, xact_place_of}
use Rattle.tx_events.specs.Pages.{xacts_per_page}
use Rattle.slru_bank.specs.Bank.{OthersStay}

-- the n-th id of a page has this state, and all other ids have what they had
pub record SetsState (page n state : ℕ) (old new : ℕ → List ℕ) : Type 0 where
  pub here : state_in (new page) n ≡ state
  pub same_page : (k : ℕ) → k < xacts_per_page → k ≢ n → state_in (new page) k ≡ state_in (old page) k
  pub others : OthersStay page old new

-- they share a page
abbrev pub ShareAPage : List ℕ → Type 0
ShareAPage ids = (j : ℕ) → j < length ids → xact_page_of (slice_index ids j) ≡ xact_page_of (slice_index ids 0)

-- the first n of these ids have the state, and all others have what they had
pub record SetsStates (ids : List ℕ) (n state : ℕ) (old new : ℕ → List ℕ) : Type 0 where
  pub each : (j : ℕ) → j < n → state_in (new (xact_page_of (slice_index ids 0))) (xact_place_of (slice_index ids j)) ≡ state
  pub same_page : (k : ℕ) → k < xacts_per_page → ((j : ℕ) → j < n → k ≢ xact_place_of (slice_index ids j))
      → state_in (new (xact_page_of (slice_index ids 0))) k ≡ state_in (old (xact_page_of (slice_index ids 0))) k
  pub others : OthersStay (xact_page_of (slice_index ids 0)) old new

-- on one page the states from the place-th id on are 0, and so are all pages that come after it
pub record TrimsStates (page place : ℕ) (old new : ℕ → List ℕ) : Type 0 where
  pub kept : (k : ℕ) → k < place → state_in (new page) k ≡ state_in (old page) k
  pub cleared : (k : ℕ) → place ≤ k → k < xacts_per_page → state_in (new page) k ≡ 0
  pub zeros : (q : ℕ) → q < 2 ^ 32 → page_precedes Ids xacts_per_page page q ≡ true → new q ≡ zero_page
  pub stay : (q : ℕ) → q ≢ page → page_precedes Ids xacts_per_page page q ≡ false → new q ≡ old q
