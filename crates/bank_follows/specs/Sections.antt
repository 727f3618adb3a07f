-- A critical section of one call: what a bank's value stands for behind it, and at each moment of the call.
use Rattle.std.specs.Prelude.{◌≡◌, ℕ, List, [], ◌∷◌, ◌++◌, Option, Some}
use Rattle.disk_core.specs.Pages.{Pages, page_bytes}
use Rattle.slru_bank.specs.Crash.{CrashLeaves, IsMixture, SameMap}
use Rattle.slru_bank.specs.Removal.{MayDrop}
use Rattle.tx_core.specs.declared.entry.Entry.{Entry}
use Rattle.tx_core.specs.declared.entry.Kind.TheVariants as kinds
use Rattle.tx_core.specs.declared.entry.Start.{Start}
use Rattle.tx_core.specs.declared.entry.State.{State}
use Rattle.tx_core.specs.Entries.{cut_in}
use Rattle.recoverable.specs.Bytes.{StoredBytes}
use Rattle.bank_follows.specs.Cells.{Cells, CutoffStands, ImageShows, IsGoneOr, IsOnePage, IsQuietOn, MakesPage, MapShows, SetsAsSaid, cut_by, cutoff_behind}
use Rattle.bank_follows.specs.Moments.{Throughout}
use Rattle.bank_follows.specs.Stores.{IsMemberAt, IsOffsetAt, IsParentAt, IsXactAt, member_cells, offset_cells, parent_cells, xact_cells}

module _ {D : Type 0} (images : D → Pages → Type 0) (moment : D → ℕ) (left_at : D → ℕ → Pages → Type 0) where
  module _ {I V : Type 0} (s : Cells I V) (Asked : ℕ → Type 0) where
    -- what a bank's value stands for: its map of pages, each image of its volume, and its cutoff
    pub record BankShows (es : List Entry) (pages : ℕ → List ℕ) (cutoff : ℕ) (d : D) : Type 0 where
      pub map : MapShows s Asked es pages
      pub left : (c : Pages) → images d c → ImageShows s Asked es c
      pub cut : CutoffStands s es cutoff

    -- the call left what was seen behind it, and at each moment of it what the list allows
    pub record Moves (es : List Entry) (e : Entry) (new : ℕ → List ℕ) (cutoff : ℕ) (before after : D) : Type 0 where
      pub shows : BankShows (es ++ e ∷ []) new cutoff after
      pub throughout : Throughout images moment left_at (ImageShows s Asked (es ++ e ∷ [])) before after

    -- One call, and its entry, for each call of a bank.
    pub record KeepsSections (es : List Entry) (e : Entry) (old new : ℕ → List ℕ) (cutoff : ℕ)
        (before after : D) : Type 0 where
      -- `read`, or a call that failed, also `flush_all`
      pub looks : (e.kind ≡ kinds.Sync → ⊥) → IsQuietOn s e → SameMap old new
          → CrashLeaves (IsMixture old old) images moment left_at before after
          → Moves es e new cutoff before after
      -- `set`, `put`
      pub sets : (e.kind ≡ kinds.Sync → ⊥) → SetsAsSaid s Asked e old new
          → CrashLeaves (IsMixture old old) images moment left_at before after
          → Moves es e new cutoff before after
      -- `zero`
      pub makes : (page : ℕ) → e.kind ≡ kinds.Zero page → s.reading.store.items_of e ≡ [] → IsOnePage s Asked page
          → MakesPage s es page old new
          → CrashLeaves (IsMixture old old) images moment left_at before after → Moves es e new cutoff before after
      -- `truncate`, also where it failed
      pub cuts : (page : ℕ) → (e.kind ≡ kinds.Sync → ⊥) → cut_in e.kind ≡ Some page → IsQuietOn s e
          → MayDrop (cut_by s (cutoff_behind s cutoff page)) old new
          → CrashLeaves (IsGoneOr s (cutoff_behind s cutoff page) old) images moment left_at before after
          → Moves es e new (cutoff_behind s cutoff page) before after
      -- `flush_all`: while it runs, the images show the list of before it
      pub syncs : IsQuietOn s e → SameMap old new
          → CrashLeaves (IsMixture old old) images moment left_at before after
          → ((c : Pages) → images after c → (q : ℕ) → page_bytes (c q) ≡ new q)
          → BankShows (es ++ e ∷ []) new cutoff after
          × Throughout images moment left_at (ImageShows s Asked es) before after

    -- from a bank that shows the list
    abbrev pub KeepBanks : Type 0
    KeepBanks = (es : List Entry) (e : Entry) (old new : ℕ → List ℕ) (cutoff : ℕ) (before after : D)
        → ((c : Pages) → left_at before (moment before) c → images before c)
        → BankShows es old cutoff before → KeepsSections es e old new cutoff before after

-- The four stores.
module _ {D : Type 0} (images : D → Pages → Type 0) (moment : D → ℕ) (left_at : D → ℕ → Pages → Type 0) where
  abbrev pub XactSections : Type 0
  XactSections = (start : Start) (shown : ℕ → Option State) (bank : ℕ)
      → KeepBanks images moment left_at (xact_cells start shown) (IsXactAt start bank)

  abbrev pub ParentSections : Type 0
  ParentSections = (start : Start) (bank : ℕ)
      → KeepBanks images moment left_at (parent_cells start) (IsParentAt start bank)

  abbrev pub OffsetSections : Type 0
  OffsetSections = (start : Start) (shown : ℕ → Option StoredBytes) (bank : ℕ)
      → KeepBanks images moment left_at (offset_cells start shown) (IsOffsetAt start bank)

  abbrev pub MemberSections : Type 0
  MemberSections = (start : Start) (shown : ℕ → Option StoredBytes) (bank : ℕ)
      → KeepBanks images moment left_at (member_cells start shown) (IsMemberAt start bank)
