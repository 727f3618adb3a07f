-- What a bank that was just opened stands for: the list without entries, over what its pages show.
use Rattle.std.specs.Prelude.{◌≡◌, ℕ, ◌+◌, ◌%◌, ◌<◌, ◌^◌, ◌==◌, cond, zero, suc, List, [], slice_index, Option, Some, None}
use Rattle.disk_core.specs.Pages.{Pages, page_bytes, zero_page}
use Rattle.store_pages.specs.Layouts.{member_page_of, member_place_of, mode_place_of, number_in, state_in, word_page_of, word_place_of, xact_page_of, xact_place_of}
use Rattle.tx_core.specs.declared.entry.Start.{Start}
use Rattle.tx_core.specs.declared.entry.State.{State}
use Rattle.tx_core.specs.declared.entry.State.TheVariants as states
use Rattle.recoverable.specs.Images.{IsAsWanted}
use Rattle.recoverable.specs.Bytes.{StoredBytes, slot_place_of}
use Rattle.bank_follows.specs.Cells.{Cells, stored, value_in}
use Rattle.bank_follows.specs.Sections.{BankShows}
use Rattle.bank_follows.specs.Stores.{IsMemberAt, IsOffsetAt, IsParentAt, IsXactAt, member_cells, offset_cells, parent_cells, xact_cells}

-- each piece of each number that is asked for is what is wanted for what the number shows when the life begins
abbrev pub ShowsFirst : {I V : Type 0} → Cells I V → (ℕ → Type 0) → (ℕ → List ℕ) → Type 0
ShowsFirst s Asked m = (x i : ℕ) → Asked x → i < s.pieces → IsAsWanted (s.wanted i (s.reading.shown x)) (value_in s m x i)

module _ {D : Type 0} (images : D → Pages → Type 0) (moment : D → ℕ) (left_at : D → ℕ → Pages → Type 0) where
  module _ {I V : Type 0} (s : Cells I V) (Asked : ℕ → Type 0) where
    -- The cutoff is the page from which on the store is kept, each image has the bytes of the pages, as a new volume's
    -- have and all have behind `flush_all`, and the pages show what the life begins with.
    pub record IsOpened (pages : ℕ → List ℕ) (cutoff : ℕ) (d : D) : Type 0 where
      pub kept : cutoff ≡ stored s s.reading.ring.kept
      pub durable : (c : Pages) → images d c → (q : ℕ) → page_bytes (c q) ≡ pages q
      pub first : ShowsFirst s Asked pages

    abbrev pub OpenedShows : Type 0
    OpenedShows = (pages : ℕ → List ℕ) (cutoff : ℕ) (d : D) → IsOpened pages cutoff d
        → BankShows images moment left_at s Asked [] pages cutoff d

  -- the four stores
  pub record OpenBanks (start : Start) (bank : ℕ) : Type 0 where
    pub xact : (shown : ℕ → Option State) → OpenedShows (xact_cells start shown) (IsXactAt start bank)
    pub parents : OpenedShows (parent_cells start) (IsParentAt start bank)
    pub offsets : (shown : ℕ → Option StoredBytes) → OpenedShows (offset_cells start shown) (IsOffsetAt start bank)
    pub members : (shown : ℕ → Option StoredBytes) → OpenedShows (member_cells start shown) (IsMemberAt start bank)

  abbrev pub BanksOpen : Type 0
  BanksOpen = (start : Start) (bank : ℕ) → OpenBanks start bank

-- ---- pages of zeros, those of a new volume and of one from which all were removed, show nothing

pub record ShowNothing (start : Start) (bank : ℕ) (pages : ℕ → List ℕ) : Type 0 where
  pub xact : ShowsFirst (xact_cells start (λ x. None)) (IsXactAt start bank) pages
  pub parents : ShowsFirst (parent_cells start) (IsParentAt start bank) pages
  pub offsets : ShowsFirst (offset_cells start (λ x. None)) (IsOffsetAt start bank) pages
  pub members : ShowsFirst (member_cells start (λ x. None)) (IsMemberAt start bank) pages

abbrev pub ZerosShowNothing : Type 0
ZerosShowNothing = (start : Start) (bank : ℕ) (pages : ℕ → List ℕ) → ((q : ℕ) → q < 2 ^ 32 → pages q ≡ zero_page)
    → ShowNothing start bank pages

-- ---- what the pages of a store's banks show

abbrev pub state_of_code : ℕ → Option State
state_of_code zero = None
state_of_code (suc zero) = Some states.Committed
state_of_code (suc (suc zero)) = Some states.Aborted
state_of_code (suc (suc (suc n))) = Some states.SubCommitted

abbrev pub states_on : ℕ → (ℕ → ℕ → List ℕ) → ℕ → Option State
states_on banks pages x = state_of_code (state_in (pages (xact_page_of x % banks) (xact_page_of x)) (xact_place_of x))

-- the bytes of a number, where the number isn't 0
abbrev pub offset_bytes_on : List ℕ → ℕ → Option StoredBytes
offset_bytes_on bytes x = cond (number_in bytes (word_place_of x) == 0) None (Some (λ i. slice_index bytes (word_place_of x + i)))

abbrev pub offsets_on : ℕ → (ℕ → ℕ → List ℕ) → ℕ → Option StoredBytes
offsets_on banks pages x = offset_bytes_on (pages (word_page_of x % banks) (word_page_of x)) x

-- and those of a slot, whatever its mode is, where they aren't all 0
abbrev pub slot_bytes_on : List ℕ → ℕ → Option StoredBytes
slot_bytes_on bytes x = cond (number_in bytes (member_place_of x) + slice_index bytes (mode_place_of x) == 0) None (Some (λ i. slice_index bytes (slot_place_of x i)))

abbrev pub members_on : ℕ → (ℕ → ℕ → List ℕ) → ℕ → Option StoredBytes
members_on banks pages x = slot_bytes_on (pages (member_page_of x % banks) (member_page_of x)) x

-- a bank's pages show what is read on them, whatever they hold
pub record ShowWhatTheyHold (start : Start) (bank : ℕ) (pages : ℕ → ℕ → List ℕ) : Type 0 where
  pub xact : ShowsFirst (xact_cells start (states_on start.banks pages)) (IsXactAt start bank) (pages bank)
  pub offsets : ShowsFirst (offset_cells start (offsets_on start.banks pages)) (IsOffsetAt start bank) (pages bank)
  pub members : ShowsFirst (member_cells start (members_on start.banks pages)) (IsMemberAt start bank) (pages bank)

abbrev pub PagesShowWhatTheyHold : Type 0
PagesShowWhatTheyHold = (start : Start) (bank : ℕ) (pages : ℕ → ℕ → List ℕ) → ShowWhatTheyHold start bank pages
