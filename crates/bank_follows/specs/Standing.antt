-- What a bank's value is to stand for: its map, its images, its cutoff, and its last made page as it is stored.
use Rattle.std.specs.Prelude.{◌≡◌, ℕ, List, [], ◌∷◌, ◌++◌, Option, Some, MatchBool, cond}
use Rattle.disk_core.specs.Pages.{Pages, page_bytes, zero_page}
use Rattle.slru_bank.specs.Bank.{PutsPage}
use Rattle.slru_bank.specs.Crash.{CrashLeaves, IsMixture, SameMap}
use Rattle.slru_bank.specs.Removal.{MayDrop}
use Rattle.tx_core.specs.declared.entry.Entry.{Entry}
use Rattle.tx_core.specs.declared.entry.Kind.TheVariants as kinds
use Rattle.tx_core.specs.declared.entry.Start.{Start}
use Rattle.tx_core.specs.declared.entry.State.{State}
use Rattle.tx_core.specs.CleanStart.{CleanStart}
use Rattle.tx_core.specs.Entries.{cut_in}
use Rattle.recoverable.specs.Bytes.{ImageHasZeroTails, StoredBytes}
use Rattle.recoverable.specs.MemberImages.{CleanMembers}
use Rattle.recoverable.specs.OffsetImages.{CleanOffsets}
use Rattle.recoverable.specs.Whole.{MembersLeft, OffsetsLeft, StatesLeft}
use Rattle.bank_follows.specs.Begins.{IsOpened}
use Rattle.bank_follows.specs.Cells.{Cells, ImageShows, IsGoneOr, IsQuietOn, SetsAsSaid, cut_by, cutoff_behind, last_made, stored}
use Rattle.bank_follows.specs.Making.{IsGivenPage, stored_before}
use Rattle.bank_follows.specs.Moments.{Throughout}
use Rattle.bank_follows.specs.Near.{AreMadeNear}
use Rattle.bank_follows.specs.Sections.{BankShows}
use Rattle.bank_follows.specs.Stores.{IsMemberAt, IsOffsetAt, IsParentAt, IsXactAt, member_cells, offset_cells, parent_cells, xact_cells}

module _ {D : Type 0} (images : D → Pages → Type 0) (moment : D → ℕ) (left_at : D → ℕ → Pages → Type 0) where
  module _ {I V : Type 0} (s : Cells I V) (Asked : ℕ → Type 0) where
    pub record BankStands (es : List Entry) (pages : ℕ → List ℕ) (cutoff last : ℕ) (d : D) : Type 0 where
      pub shows : BankShows images moment left_at s Asked es pages cutoff d
      pub last_is : last ≡ stored s (last_made s es)
      pub given : IsGivenPage s (last_made s es)

    -- what a value holds: it stands so for a list of a life of few numbers
    abbrev pub StandsIfNear : List Entry → (ℕ → List ℕ) → ℕ → ℕ → D → Type 0
    StandsIfNear es pages cutoff last d = AreMadeNear s es → BankStands es pages cutoff last d

    -- behind a call, and at each moment of it
    pub record Stands (es during : List Entry) (pages : ℕ → List ℕ) (cutoff last : ℕ) (before after : D) : Type 0 where
      pub behind : BankStands es pages cutoff last after
      pub throughout : Throughout images moment left_at (ImageShows s Asked during) before after

    -- the last page behind `zero`
    abbrev pub last_behind : ℕ → ℕ → ℕ
    last_behind last page = cond (stored_before s last (stored s page)) (stored s page) last

    -- One call of a bank, and its entry, for each call: by the bank's own clauses alone.
    pub record KeepsStanding (es : List Entry) (e : Entry) (old new : ℕ → List ℕ) (cutoff last : ℕ)
        (before after : D) : Type 0 where
      -- `read`, or a call that failed, also `flush_all`
      pub looks : (e.kind ≡ kinds.Sync → ⊥) → IsQuietOn s e → SameMap old new
          → CrashLeaves (IsMixture old old) images moment left_at before after
          → Stands (es ++ e ∷ []) (es ++ e ∷ []) new cutoff last before after
      -- `set`, `put`
      pub sets : (e.kind ≡ kinds.Sync → ⊥) → SetsAsSaid s Asked e old new
          → CrashLeaves (IsMixture old old) images moment left_at before after
          → Stands (es ++ e ∷ []) (es ++ e ∷ []) new cutoff last before after
      -- `zero`
      pub makes : (page : ℕ) → e.kind ≡ kinds.Zero page → s.reading.store.items_of e ≡ []
          → MatchBool (stored_before s last (stored s page))
          (PutsPage (stored s page) zero_page old new) (SameMap old new)
          → CrashLeaves (IsMixture old old) images moment left_at before after
          → Stands (es ++ e ∷ []) (es ++ e ∷ []) new cutoff (last_behind last page) before after
      -- `truncate`, also where it failed
      pub cuts : (page : ℕ) → (e.kind ≡ kinds.Sync → ⊥) → cut_in e.kind ≡ Some page → IsQuietOn s e
          → MayDrop (cut_by s (cutoff_behind s cutoff page)) old new
          → CrashLeaves (IsGoneOr s (cutoff_behind s cutoff page) old) images moment left_at before after
          → Stands (es ++ e ∷ []) (es ++ e ∷ []) new (cutoff_behind s cutoff page) last before after
      -- `flush_all`: while it runs, the images show the list of before it
      pub syncs : IsQuietOn s e → SameMap old new
          → CrashLeaves (IsMixture old old) images moment left_at before after
          → ((c : Pages) → images after c → (q : ℕ) → page_bytes (c q) ≡ new q)
          → Stands (es ++ e ∷ []) es new cutoff last before after

    pub record KeepStanding : Type 0 where
      -- from what the value held of the list to what it holds of the longer one
      pub keeps : (es : List Entry) (e : Entry) (old new : ℕ → List ℕ) (cutoff last : ℕ) (before after : D)
          → ((c : Pages) → left_at before (moment before) c → images before c)
          → StandsIfNear es old cutoff last before → AreMadeNear s (es ++ e ∷ [])
          → KeepsStanding es e old new cutoff last before after
      -- a bank that was just opened
      pub opens : (pages : ℕ → List ℕ) (cutoff last : ℕ) (d : D)
          → IsOpened images moment left_at s Asked pages cutoff d
          → last ≡ stored s (s.reading.store.page_of s.reading.first) → BankStands [] pages cutoff last d

  -- the four stores; and of three of them what fit asks of the images
  pub record StoresStand (start : Start) (bank : ℕ) : Type 0 where
    pub xact : (shown : ℕ → Option State) → KeepStanding (xact_cells start shown) (IsXactAt start bank)
    pub parents : KeepStanding (parent_cells start) (IsParentAt start bank)
    pub offsets : (shown : ℕ → Option StoredBytes) → KeepStanding (offset_cells start shown) (IsOffsetAt start bank)
    pub members : (shown : ℕ → Option StoredBytes) → KeepStanding (member_cells start shown) (IsMemberAt start bank)
    pub states_left : (shown : ℕ → Option State) (es : List Entry) (pages : ℕ → List ℕ) (cutoff last : ℕ) (d : D)
        (c : Pages) → CleanStart start shown
        → BankStands (xact_cells start shown) (IsXactAt start bank) es pages cutoff last d
        → images d c → StatesLeft start bank es c
    pub offsets_left : (shown : ℕ → Option StoredBytes) (es : List Entry) (pages : ℕ → List ℕ) (cutoff last : ℕ) (d : D)
        (c : Pages) → CleanOffsets start shown
        → BankStands (offset_cells start shown) (IsOffsetAt start bank) es pages cutoff last d
        → images d c → OffsetsLeft start bank es c
    pub members_left : (shown : ℕ → Option StoredBytes) (es : List Entry) (pages : ℕ → List ℕ) (cutoff last : ℕ) (d : D)
        (c : Pages) → CleanMembers start shown
        → BankStands (member_cells start shown) (IsMemberAt start bank) es pages cutoff last d
        → images d c → ImageHasZeroTails c → MembersLeft start bank es c

  abbrev pub BanksStand : Type 0
  BanksStand = (start : Start) (bank : ℕ) → StoresStand start bank
