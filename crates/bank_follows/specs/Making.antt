-- `zero` of a bank goes by stored pages, in the order of `store_pages`; the list's entries name pages in full.
use Rattle.std.specs.Prelude.{◌≡◌, ℕ, ◌+◌, ◌^◌, ◌≤◌, Bool, cond, List, [], ◌∷◌, ◌++◌, None, Option, MatchBool}
use Rattle.tx_events.specs.PageOrder.{page_precedes}
use Rattle.disk_core.specs.Pages.{zero_page}
use Rattle.slru_bank.specs.Bank.{PutsPage}
use Rattle.slru_bank.specs.Crash.{SameMap}
use Rattle.tx_core.specs.declared.entry.Entry.{Entry}
use Rattle.tx_core.specs.declared.entry.Kind.TheVariants as kinds
use Rattle.tx_core.specs.declared.entry.Start.{Start}
use Rattle.tx_core.specs.declared.entry.State.{State}
use Rattle.tx_core.specs.Pages.{zeroed_in}
use Rattle.recoverable.specs.Bytes.{StoredBytes}
use Rattle.bank_follows.specs.Cells.{Cells, MakesPage, last_made, stored}
use Rattle.bank_follows.specs.Stores.{member_cells, offset_cells, parent_cells, xact_cells}

module _ {I V : Type 0} (s : Cells I V) where
  -- the page of a number that a life gives: from the base's next one on, up to 2^29 past it
  abbrev pub IsGivenPage : ℕ → Type 0
  IsGivenPage page = (x : ℕ) × (s.reading.first ≤ x) × (x ≤ s.reading.first + 2 ^ 29) × (page ≡ s.reading.store.page_of x)

  -- one stored page comes before another
  abbrev pub stored_before : ℕ → ℕ → Bool
  stored_before p q = page_precedes s.reading.ring.shape s.reading.ring.per_page p q

  -- The bank's last page is that of the list, as it is stored.
  pub record MakesStored : Type 0 where
    -- what `zero` does makes the page in full
    pub makes : (es : List Entry) (page last : ℕ) (old new : ℕ → List ℕ) → IsGivenPage (last_made s es) → IsGivenPage page → last ≡ stored s (last_made s es)
        → MatchBool (stored_before last (stored s page)) (PutsPage (stored s page) zero_page old new) (SameMap old new)
        → MakesPage s es page old new
    -- the last page behind it
    pub last : (es : List Entry) (e : Entry) (page last : ℕ) → e.kind ≡ kinds.Zero page → IsGivenPage (last_made s es) → IsGivenPage page → last ≡ stored s (last_made s es)
        → cond (stored_before last (stored s page)) (stored s page) last ≡ stored s (last_made s (es ++ e ∷ []))
    pub given : (es : List Entry) (e : Entry) (page : ℕ) → e.kind ≡ kinds.Zero page → IsGivenPage (last_made s es) → IsGivenPage page → IsGivenPage (last_made s (es ++ e ∷ []))
    -- at first, and behind an entry that makes none
    pub first : IsGivenPage (last_made s [])
    pub stays : (es : List Entry) (e : Entry) → zeroed_in e.kind ≡ None → last_made s (es ++ e ∷ []) ≡ last_made s es

-- the four stores
pub record MakeStored (start : Start) : Type 0 where
  pub xact : (shown : ℕ → Option State) → MakesStored (xact_cells start shown)
  pub parents : MakesStored (parent_cells start)
  pub offsets : (shown : ℕ → Option StoredBytes) → MakesStored (offset_cells start shown)
  pub members : (shown : ℕ → Option StoredBytes) → MakesStored (member_cells start shown)

abbrev pub StoredPagesMade : Type 0
StoredPagesMade = (start : Start) → MakeStored start
