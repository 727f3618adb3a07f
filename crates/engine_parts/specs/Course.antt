-- The course of a bank of pg_xact: it was opened, and then came its calls and the entries of its list, one by one. What
-- its volume holds follows from it by laws that stand higher.
use Rattle.std.specs.Prelude.{◌≡◌, ℕ, zero, suc, ◌%◌, ◌^◌, ◌≤◌, ◌⊎◌, List, [], ◌∷◌, ◌++◌, length, Option, Some, None, Contains, MatchBool, cond}
use Rattle.disk_core.specs.Pages.{zero_page}
use Rattle.disk_core.specs.declared.page_disk.PageDisk as disks
use Rattle.store_pages.specs.declared.page_rule.PageRule as rules
use Rattle.store_pages.specs.Layouts.{state_in, xact_page_of, xact_place_of}
use Rattle.slru_bank.specs.declared.bank.SlruBank.{SlruBank}
use Rattle.slru_bank.specs.Bank.{PutsPage}
use Rattle.slru_bank.specs.Calls.{CrashKeeps, CrashMayLack, IsDurable, SamePages, cutoff_of, last_page, pages_of}
use Rattle.slru_bank.specs.Changes.{SetsStates, ShareAPage}
use Rattle.slru_bank.specs.Removal.{MayDrop, later_cutoff}
use Rattle.tx_events.specs.PageOrder.{Ids, is_cut, page_precedes}
use Rattle.tx_events.specs.declared.event.By.{By}
use Rattle.tx_core.specs.declared.entry.Entry.{Entry}
use Rattle.tx_core.specs.declared.entry.Kind.TheVariants as kinds
use Rattle.tx_core.specs.declared.entry.Start.{Start}
use Rattle.tx_core.specs.declared.entry.State.{State}
use Rattle.tx_core.specs.CleanStart.{CleanStart, IsNear}
use Rattle.tx_core.specs.Entries.{cut_in, marks_in}
use Rattle.tx_core.specs.Laws.{all_set}
use Rattle.tx_core.specs.Locks.{xact_lock, xact_lock_of, xact_page}
use Rattle.tx_core.specs.Pages.{zeroed_in}
use Rattle.tx_core.specs.PagesBeforeIds.{WasMade}
use Rattle.engine_parts.specs.Stand.{number_of_state}

module _ {P O : Type 0} {g : disks.Ghosts P} {r : rules.Ghosts O} where
  -- It was opened over pages that a clean start shows, as every crash would leave them.
  pub record IsOpened (start : Start) (bank : ℕ) (store : SlruBank P O g r) : Type 0 where
    pub before : ℕ → Option State
    pub clean : CleanStart start before
    pub shown : (x : ℕ) → IsNear start x → xact_lock_of start x ≡ xact_lock bank
        → state_in (pages_of store (xact_page_of x)) (xact_place_of x) ≡ number_of_state (before x)
    pub durable : IsDurable store
    pub last : last_page store ≡ xact_page start.base.next % 2 ^ 17
    pub cutoff : cutoff_of store ≡ xact_page start.base.oldest % 2 ^ 17

  -- a call that left the pages as they were, and no entry for it yet
  pub record Looked (old new : SlruBank P O g r) (before es : List Entry) : Type 0 where
    pub entries : es ≡ before
    pub last : last_page new ≡ last_page old
    pub cutoff : cutoff_of new ≡ cutoff_of old
    pub pages : SamePages old new
    pub crash : CrashKeeps old new

  -- an entry that sets no state, makes no page and cuts none, for no call
  pub record Noted (old new : SlruBank P O g r) (before es : List Entry) : Type 0 where
    pub entry : Entry
    pub entries : es ≡ before ++ entry ∷ []
    pub same : new ≡ old
    pub sets : marks_in entry ≡ []
    pub makes : zeroed_in entry.kind ≡ None
    pub cuts : cut_in entry.kind ≡ None
    pub other : entry.kind ≡ kinds.Sync → ⊥

  -- a page was made, or stood already
  pub record PageMade (old new : SlruBank P O g r) (before es : List Entry) : Type 0 where
    pub by : By
    pub page : ℕ
    pub entries : es ≡ before ++ record { by = by; kind = kinds.Zero page } ∷ []
    pub pages : MatchBool (page_precedes Ids 32768 (last_page old) (page % 2 ^ 17))
        (PutsPage (page % 2 ^ 17) zero_page (pages_of old) (pages_of new)) (SamePages old new)
    pub last : last_page new
        ≡ cond (page_precedes Ids 32768 (last_page old) (page % 2 ^ 17)) (page % 2 ^ 17) (last_page old)
    pub cutoff : cutoff_of new ≡ cutoff_of old
    pub crash : CrashKeeps old new

  -- a state was set, of ids of one page that was made before
  pub record Marked (start : Start) (old new : SlruBank P O g r) (before es : List Entry) : Type 0 where
    pub by : By
    pub state : State
    pub ids : List ℕ
    pub entries : es ≡ before ++ record { by = by; kind = kinds.Set (all_set by state ids) } ∷ []
    pub some : 1 ≤ length ids
    pub share : ShareAPage ids
    pub made : (id : ℕ) → Contains ids id → WasMade before (xact_page start.base.next) (xact_page id)
    pub pages : SetsStates ids (length ids) (number_of_state (Some state)) (pages_of old) (pages_of new)
    pub last : last_page new ≡ last_page old
    pub cutoff : cutoff_of new ≡ cutoff_of old
    pub crash : CrashKeeps old new

  -- all pages were put on disk
  pub record Synced (old new : SlruBank P O g r) (before es : List Entry) : Type 0 where
    pub by : By
    pub entries : es ≡ before ++ record { by = by; kind = kinds.Sync } ∷ []
    pub last : last_page new ≡ last_page old
    pub cutoff : cutoff_of new ≡ cutoff_of old
    pub pages : SamePages old new
    pub durable : IsDurable new
    pub crash : CrashKeeps old new

  -- what lies before a page was removed, or some of it, where the volume failed
  pub record Removed (old new : SlruBank P O g r) (before es : List Entry) : Type 0 where
    pub entry : Entry
    pub page : ℕ
    pub entries : es ≡ before ++ entry ∷ []
    pub cuts : cut_in entry.kind ≡ Some page
    pub sets : marks_in entry ≡ []
    pub makes : zeroed_in entry.kind ≡ None
    pub cutoff : cutoff_of new ≡ later_cutoff Ids 32768 (cutoff_of old) (page % 2 ^ 17)
    pub pages : MayDrop (is_cut Ids 32768 (cutoff_of new)) (pages_of old) (pages_of new)
    pub last : last_page new ≡ last_page old
    pub crash : CrashMayLack (is_cut Ids 32768 (cutoff_of new)) old new

  abbrev pub Step : Start → SlruBank P O g r → SlruBank P O g r → List Entry → List Entry → Type 0
  Step start old new before es =
      Looked old new before es ⊎ (Noted old new before es ⊎ (PageMade old new before es
      ⊎ (Marked start old new before es ⊎ (Synced old new before es ⊎ Removed old new before es))))

  -- so many steps led to this bank and this list
  abbrev pub Went : Start → ℕ → ℕ → SlruBank P O g r → List Entry → Type 0
  Went start bank zero store es = (es ≡ []) × IsOpened start bank store
  Went start bank (suc n) store es =
      (old : SlruBank P O g r) × (before : List Entry) × Went start bank n old before × Step start old store before es

  abbrev pub HasCourse : Start → ℕ → SlruBank P O g r → List Entry → Type 0
  HasCourse start bank store es = (steps : ℕ) × Went start bank steps store es
