-- The course of a bank of pg_subtrans, of offsets or of members: it was opened, and then came its calls and the entries of
-- its list, one by one. What its volume holds follows from it by laws that stand higher.
use Rattle.std.specs.Prelude.{◌≡◌, ℕ, zero, suc, ◌+◌, ◌%◌, ◌^◌, ◌<◌, ◌⊎◌, Bool, false, List, [], ◌∷◌, ◌++◌, Option, Some, None, MatchBool, cond}
use Rattle.std.specs.List.{filter_map, last_or, slice_index}
use Rattle.disk_core.specs.Pages.{zero_page}
use Rattle.disk_core.specs.declared.page_disk.PageDisk as disks
use Rattle.store_pages.specs.declared.page_rule.PageRule as rules
use Rattle.store_pages.specs.Layouts.{number_in, word_page_of, word_place_of}
use Rattle.slru_bank.specs.declared.bank.SlruBank.{SlruBank}
use Rattle.slru_bank.specs.Bank.{PutsPage}
use Rattle.slru_bank.specs.Calls.{CrashKeeps, CrashMayLack, IsDurable, SamePages, cutoff_of, last_page, pages_of}
use Rattle.slru_bank.specs.Removal.{MayDrop, later_cutoff}
use Rattle.tx_events.specs.PageOrder.{Ids, is_cut, page_precedes}
use Rattle.tx_events.specs.declared.event.By.{By}
use Rattle.tx_core.specs.declared.entry.Entry.{Entry}
use Rattle.tx_core.specs.declared.entry.Kind.TheVariants as kinds
use Rattle.tx_core.specs.declared.entry.Start.{Start}
use Rattle.tx_core.specs.Entries.{Link, cut_in}
use Rattle.tx_core.specs.Locks.{members_lock, members_lock_of, offsets_lock, offsets_lock_of}
use Rattle.tx_core.specs.MultiEntries.{SetOffset, SetSlot}
use Rattle.tx_core.specs.Pages.{zeroed_in}
use Rattle.tx_core.specs.PagesBeforeIds.{WasMade}
use Rattle.tx_core.specs.CleanMultis.{CleanMembers, CleanOffsets, IsNearMulti, IsNearOffset}
use Rattle.tx_core.specs.StoredBytes.{HasZeroTails, StoredBytes, byte_held, slot_place_of}
use Rattle.engine_parts.specs.Shelf.{IsRoomFor, Shelf}
use Rattle.engine_parts.specs.Shelves.{member_shelf, offset_shelf, parent_shelf}
use Rattle.engine_parts.specs.Stand.{IsInUse, first_subtrans_page, number_of_parent}

-- A store whose numbers are kept in pieces: how it stands on its shelf, how many pieces a number has, each as it is read of
-- its page, and as it is wanted for what the number shows. Of offsets and members a piece is a byte, since a crash may tear
-- a number of four bytes.
pub record Rack (I V R : Type 0) : Type 0 where
  pub shelf : Shelf I V R
  pub pieces : ℕ
  pub piece : List ℕ → ℕ → ℕ → ℕ
  pub held : Option V → ℕ → ℕ

module _ {I V R : Type 0} (k : Rack I V R) (Asked : ℕ → Type 0) where
  abbrev pub piece_on : (ℕ → List ℕ) → ℕ → ℕ → ℕ
  piece_on m x i = k.piece (m (k.shelf.page x)) x i

  -- the pages that a cutoff cuts, and the cutoff behind a removal of what lies before a page in full
  abbrev pub cuts_page : ℕ → ℕ → Bool
  cuts_page cutoff q = is_cut k.shelf.shape k.shelf.per_page cutoff q

  abbrev pub cutoff_past : ℕ → ℕ → ℕ
  cutoff_past cutoff page = later_cutoff k.shelf.shape k.shelf.per_page cutoff (page % k.shelf.pages)

  -- what an entry sets of a number
  abbrev pub set_of : Entry → ℕ → List V
  set_of e x = filter_map (k.shelf.store.value_for x) (k.shelf.store.items_of e)

  -- The pages of a life have room for each number that it sets. Two numbers that are further apart may have one place.
  abbrev pub HasRoom : Entry → Type 0
  HasRoom e = (x : ℕ) (v : V) → last_or None (set_of e x) ≡ Some v → IsRoomFor k.shelf x

  -- an entry that sets nothing and makes no page
  pub record IsQuiet (e : Entry) : Type 0 where
    pub sets : k.shelf.store.items_of e ≡ []
    pub makes : zeroed_in e.kind ≡ None

  module _ {P O : Type 0} {g : disks.Ghosts P} {r : rules.Ghosts O} where
    -- It was opened over pages that a clean start shows, as every crash would leave them.
    pub record IsOpenedOn (Clean : (ℕ → Option V) → Type 0) (Tails : (ℕ → List ℕ) → Type 0) (store : SlruBank P O g r) : Type 0 where
      pub before : ℕ → Option V
      pub clean : Clean before
      pub shown : (x i : ℕ) → Asked x → i < k.pieces → piece_on (pages_of store) x i ≡ k.held (before x) i
      pub tails : Tails (pages_of store)
      pub durable : IsDurable store
      pub last : last_page store ≡ k.shelf.store.page_of k.shelf.first % k.shelf.pages
      pub cutoff : cutoff_of store ≡ k.shelf.kept % k.shelf.pages

    -- a call that left the pages as they were, and no entry for it yet
    pub record LookedAt (old new : SlruBank P O g r) (before es : List Entry) : Type 0 where
      pub entries : es ≡ before
      pub last : last_page new ≡ last_page old
      pub cutoff : cutoff_of new ≡ cutoff_of old
      pub pages : SamePages old new
      pub crash : CrashKeeps old new

    -- an entry that sets nothing, makes no page and cuts none, for no call
    pub record NotedOnly (old new : SlruBank P O g r) (before es : List Entry) : Type 0 where
      pub entry : Entry
      pub entries : es ≡ before ++ entry ∷ []
      pub same : new ≡ old
      pub quiet : IsQuiet entry
      pub cuts : cut_in entry.kind ≡ None
      pub other : entry.kind ≡ kinds.Sync → ⊥

    -- a page was made, or stood already
    pub record MadePage (old new : SlruBank P O g r) (before es : List Entry) : Type 0 where
      pub by : By
      pub page : ℕ
      pub entries : es ≡ before ++ record { by = by; kind = kinds.Zero page } ∷ []
      pub pages : MatchBool (page_precedes k.shelf.shape k.shelf.per_page (last_page old) (page % k.shelf.pages))
          (PutsPage (page % k.shelf.pages) zero_page (pages_of old) (pages_of new)) (SamePages old new)
      pub last : last_page new
          ≡ cond (page_precedes k.shelf.shape k.shelf.per_page (last_page old) (page % k.shelf.pages)) (page % k.shelf.pages) (last_page old)
      pub cutoff : cutoff_of new ≡ cutoff_of old
      pub crash : CrashKeeps old new

    -- numbers of pages that were made before were set
    pub record SetThem (Tails : (ℕ → List ℕ) → Type 0) (old new : SlruBank P O g r) (before es : List Entry) : Type 0 where
      pub entry : Entry
      pub entries : es ≡ before ++ entry ∷ []
      pub makes : zeroed_in entry.kind ≡ None
      pub cuts : cut_in entry.kind ≡ None
      pub other : entry.kind ≡ kinds.Sync → ⊥
      pub made : (x : ℕ) (v : V) → last_or None (set_of entry x) ≡ Some v → WasMade before (k.shelf.store.page_of k.shelf.first) (k.shelf.store.page_of x)
      pub kept : HasRoom entry → (x i : ℕ) → Asked x → i < k.pieces → set_of entry x ≡ [] → piece_on (pages_of new) x i ≡ piece_on (pages_of old) x i
      pub set : (x i : ℕ) (v : V) → Asked x → i < k.pieces → last_or None (set_of entry x) ≡ Some v → piece_on (pages_of new) x i ≡ k.held (Some v) i
      pub tails : Tails (pages_of old) → Tails (pages_of new)
      pub last : last_page new ≡ last_page old
      pub cutoff : cutoff_of new ≡ cutoff_of old
      pub crash : CrashKeeps old new

    -- what lies before a page was removed, or some of it, where the volume failed
    pub record CutBefore (old new : SlruBank P O g r) (before es : List Entry) : Type 0 where
      pub entry : Entry
      pub page : ℕ
      pub entries : es ≡ before ++ entry ∷ []
      pub cuts : cut_in entry.kind ≡ Some page
      pub quiet : IsQuiet entry
      pub cutoff : cutoff_of new ≡ cutoff_past (cutoff_of old) page
      pub pages : MayDrop (cuts_page (cutoff_of new)) (pages_of old) (pages_of new)
      pub last : last_page new ≡ last_page old
      pub crash : CrashMayLack (cuts_page (cutoff_of new)) old new

    -- all pages were put on disk
    pub record SyncedAll (old new : SlruBank P O g r) (before es : List Entry) : Type 0 where
      pub by : By
      pub entries : es ≡ before ++ record { by = by; kind = kinds.Sync } ∷ []
      pub last : last_page new ≡ last_page old
      pub cutoff : cutoff_of new ≡ cutoff_of old
      pub pages : SamePages old new
      pub durable : IsDurable new
      pub crash : CrashKeeps old new

    abbrev pub StepsTo : ((ℕ → List ℕ) → Type 0) → SlruBank P O g r → SlruBank P O g r → List Entry → List Entry → Type 0
    StepsTo Tails old new before es =
        LookedAt old new before es ⊎ (NotedOnly old new before es ⊎ (MadePage old new before es
        ⊎ (SetThem Tails old new before es ⊎ (CutBefore old new before es ⊎ SyncedAll old new before es))))

    -- so many steps led to this bank and this list
    abbrev pub CameTo : ((ℕ → Option V) → Type 0) → ((ℕ → List ℕ) → Type 0) → ℕ → SlruBank P O g r → List Entry → Type 0
    CameTo Clean Tails zero store es = (es ≡ []) × IsOpenedOn Clean Tails store
    CameTo Clean Tails (suc n) store es =
        (old : SlruBank P O g r) × (before : List Entry) × CameTo Clean Tails n old before × StepsTo Tails old store before es

    abbrev pub Came : ((ℕ → Option V) → Type 0) → ((ℕ → List ℕ) → Type 0) → SlruBank P O g r → List Entry → Type 0
    Came Clean Tails store es = (steps : ℕ) × CameTo Clean Tails steps store es

-- ---- the three stores

abbrev pub parent_rack : Start → Rack Link ℕ ℕ
parent_rack start = record {
  shelf = parent_shelf start;
  pieces = 1;
  piece = λ page x i. number_in page (word_place_of x);
  held = λ o i. number_of_parent o;
}

abbrev pub offset_rack : Start → Rack SetOffset StoredBytes ℕ
offset_rack start = record {
  shelf = offset_shelf start;
  pieces = 4;
  piece = λ page x i. slice_index page (word_place_of x + i);
  held = byte_held;
}

abbrev pub member_rack : Start → Rack SetSlot StoredBytes (ℕ × ℕ)
member_rack start = record {
  shelf = member_shelf start;
  pieces = 5;
  piece = λ page x i. slice_index page (slot_place_of x i);
  held = byte_held;
}

-- the numbers that a bank is asked for: an id in use whose page wasn't cut when the life began
pub record IsParentOn (start : Start) (bank x : ℕ) : Type 0 where
  pub used : IsInUse start x
  pub on : word_page_of x % start.banks ≡ bank
  pub uncut : is_cut Ids 2048 (first_subtrans_page start % 2 ^ 21) (word_page_of x) ≡ false

-- a multixact, an offset
pub record IsOffsetOn (start : Start) (bank x : ℕ) : Type 0 where
  pub near : IsNearMulti start x
  pub on : offsets_lock_of start x ≡ offsets_lock bank

pub record IsMemberOn (start : Start) (bank x : ℕ) : Type 0 where
  pub near : IsNearOffset start x
  pub on : members_lock_of start x ≡ members_lock bank

-- a life begins with no parent
abbrev pub HasNoParents : (ℕ → Option ℕ) → Type 0
HasNoParents before = (x : ℕ) → before x ≡ None

module _ {P O : Type 0} {g : disks.Ghosts P} {r : rules.Ghosts O} where
  abbrev pub ParentsCame : Start → ℕ → SlruBank P O g r → List Entry → Type 0
  ParentsCame start bank store es =
      Came (parent_rack start) (IsParentOn start bank) HasNoParents (λ m. Unit {0}) store es

  abbrev pub OffsetsCame : Start → ℕ → SlruBank P O g r → List Entry → Type 0
  OffsetsCame start bank store es =
      Came (offset_rack start) (IsOffsetOn start bank) (CleanOffsets start) (λ m. Unit {0}) store es

  abbrev pub MembersCame : Start → ℕ → SlruBank P O g r → List Entry → Type 0
  MembersCame start bank store es =
      Came (member_rack start) (IsMemberOn start bank) (CleanMembers start) HasZeroTails store es
