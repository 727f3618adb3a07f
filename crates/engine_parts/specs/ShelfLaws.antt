-- One entry more of a bank's list: what the bank stands for.
use Rattle.std.specs.Prelude.{◌≡◌, ℕ, ◌+◌, ◌%◌, ◌^◌, ◌≤◌, Bool, IsTrue, List, [], ◌∷◌, ◌++◌, Option, None, Some, MatchBool, cond}
use Rattle.std.specs.List.{filter_map, last_or}
use Rattle.disk_core.specs.Pages.{zero_page}
use Rattle.slru_bank.specs.Bank.{PutsPage}
use Rattle.slru_bank.specs.ByteRange.{SetsEntry}
use Rattle.slru_bank.specs.Crash.{SameMap}
use Rattle.store_pages.specs.Layouts.{word_page_of}
use Rattle.tx_events.specs.Ids.{low_half}
use Rattle.tx_events.specs.declared.event.By.{By}
use Rattle.tx_core.specs.declared.entry.Change.TheVariants as changes
use Rattle.slru_bank.specs.Removal.{MayDrop, later_cutoff}
use Rattle.tx_events.specs.PageOrder.{is_cut, page_precedes}
use Rattle.tx_core.specs.declared.entry.Entry.{Entry}
use Rattle.tx_core.specs.declared.entry.Kind.TheVariants as kinds
use Rattle.tx_core.specs.declared.entry.Start.{Start}
use Rattle.tx_core.specs.Entries.{cut_in}
use Rattle.tx_core.specs.FaultsRise.{faults_told}
use Rattle.tx_core.specs.Locks.{members_lock, offsets_lock}
use Rattle.tx_core.specs.Pages.{zeroed_in}
use Rattle.tx_core.specs.CleanMultis.{CleanMembers, CleanOffsets}
use Rattle.engine_parts.specs.Shelf.{IsNearBy, IsRoomFor, Shelf, StoreStands}
use Rattle.engine_parts.specs.Shelves.{member_shelf, offset_shelf}

-- the entry sets nothing and makes no page
pub record IsStill {I V R : Type 0} (h : Shelf I V R) (e : Entry) : Type 0 where
  pub sets_none : h.store.items_of e ≡ []
  pub makes_none : zeroed_in e.kind ≡ None

-- what the entry sets stands on the pages, and what it doesn't is as it was
pub record SetsShown {I V R : Type 0} (h : Shelf I V R) (e : Entry) (old new : ℕ → List ℕ) : Type 0 where
  pub makes_none : zeroed_in e.kind ≡ None
  pub others : (x : ℕ) → IsRoomFor h x → filter_map (h.store.value_for x) (h.store.items_of e) ≡ []
      → h.read (new (h.page x)) x ≡ h.read (old (h.page x)) x
  pub set : (x : ℕ) (v : V) → IsRoomFor h x → last_or None (filter_map (h.store.value_for x) (h.store.items_of e)) ≡ Some v
      → h.read (new (h.page x)) x ≡ h.wants (Some v)

-- One entry more of each kind, for what the bank's calls do: they look, set, make a page, or cut.
pub record KeepsStore {I V R : Type 0} (h : Shelf I V R) (Clean : (ℕ → Option V) → Type 0) (start : Start) (lock bank : ℕ)
    (tells : Bool) (faults faults' last last' cutoff cutoff' : ℕ) (bytes bytes' : ℕ → List ℕ)
    (es : List Entry) (e : Entry) : Type 0 where
  pub looks : IsStill h e → last' ≡ last → cutoff' ≡ cutoff → (IsTrue tells → SameMap bytes bytes')
      → StoreStands h Clean start lock bank tells faults' last' cutoff' bytes' (es ++ e ∷ [])
  pub sets : last' ≡ last → cutoff' ≡ cutoff → zeroed_in e.kind ≡ None → (IsTrue tells → SetsShown h e bytes bytes')
      → StoreStands h Clean start lock bank tells faults' last' cutoff' bytes' (es ++ e ∷ [])
  pub makes : (page : ℕ) → e.kind ≡ kinds.Zero page → h.store.items_of e ≡ [] → IsNearBy h page
      → last' ≡ cond (page_precedes h.shape h.per_page last (page % h.pages)) (page % h.pages) last → cutoff' ≡ cutoff
      → (IsTrue tells → MatchBool (page_precedes h.shape h.per_page last (page % h.pages))
      (PutsPage (page % h.pages) zero_page bytes bytes') (SameMap bytes bytes'))
      → StoreStands h Clean start lock bank tells faults' last' cutoff' bytes' (es ++ e ∷ [])
  pub cuts : (page : ℕ) → cut_in e.kind ≡ Some page → IsStill h e → last' ≡ last
      → cutoff' ≡ later_cutoff h.shape h.per_page cutoff (page % h.pages)
      → (IsTrue tells → MayDrop (is_cut h.shape h.per_page cutoff') bytes bytes')
      → StoreStands h Clean start lock bank tells faults' last' cutoff' bytes' (es ++ e ∷ [])

-- from a bank that stands for the list; its volume has counted the entry's fault
abbrev pub KeepStore : {I V R : Type 0} → Shelf I V R → ((ℕ → Option V) → Type 0) → Start → ℕ → ℕ → Type 0
KeepStore h Clean start lock bank =
    (tells : Bool) (faults faults' last last' cutoff cutoff' : ℕ) (bytes bytes' : ℕ → List ℕ)
    (es : List Entry) (e : Entry)
    → StoreStands h Clean start lock bank tells faults last cutoff bytes es
    → faults_told start lock (es ++ e ∷ []) ≤ faults'
    → KeepsStore h Clean start lock bank tells faults faults' last last' cutoff cutoff' bytes bytes' es e

-- the base's multixacts span no more than half a ring, as those of a base do
abbrev pub OffsetsKeep : Type 0
OffsetsKeep = (start : Start) (bank : ℕ) → start.base.multi ≤ start.base.oldest_multi + 2 ^ 31
    → KeepStore (offset_shelf start) (CleanOffsets start) start (offsets_lock bank) bank

-- an offset that was set
abbrev pub OffsetSet : Type 0
OffsetSet = (start : Start) (by caller : By) (multi offset : ℕ) (old new : ℕ → List ℕ)
    → start.base.multi ≤ start.base.oldest_multi + 2 ^ 31 → IsRoomFor (offset_shelf start) multi
    → SetsEntry (word_page_of multi) (low_half multi % 2048) (low_half offset) old new
    → SetsShown (offset_shelf start) (record { by = by; kind = kinds.Set (changes.Offset caller multi offset ∷ []) }) old new

-- ---- members

-- the base's offsets span no more than a quarter of a ring
abbrev pub MembersKeep : Type 0
MembersKeep = (start : Start) (bank : ℕ) → start.base.offset ≤ start.base.oldest_offset + 2 ^ 30
    → KeepStore (member_shelf start) (CleanMembers start) start (members_lock bank) bank
