-- An id is given only when its pages are made, and a page is changed only after it was made.
use Rattle.std.specs.Prelude.{◌≡◌, ℕ, ◌≤◌, ◌⊎◌, List, length, take, Contains, IfSome}
use Rattle.tx_events.specs.declared.event.By.{By}
use Rattle.tx_events.specs.Events.{given_by}
use Rattle.tx_events.specs.History.{next_given}
use Rattle.tx_events.specs.Multis.{next_made, free_offset}
use Rattle.tx_core.specs.declared.entry.Entry.{Entry}
use Rattle.tx_core.specs.declared.entry.Kind.{Kind}
use Rattle.tx_core.specs.declared.entry.Kind.TheVariants as kinds
use Rattle.tx_core.specs.declared.entry.Start.{Start}
use Rattle.tx_core.specs.Lists.{Upheld}
use Rattle.tx_core.specs.Locks.{xact_page, subtrans_page, offset_page, member_page_in_full, xact_lock, subtrans_lock, offsets_lock, members_lock, xact_lock_of, subtrans_lock_of}
use Rattle.tx_core.specs.Entries.{events_in, history, Stands, EachMark, EachLink}
use Rattle.tx_core.specs.MultiEntries.{multi_history, EachOffset, EachSlot}

-- both pages of an id were made: by an entry of their locks, or when the life began with the next id on them
abbrev pub IsMade : Start → List (List Entry) → ℕ → Type 0
IsMade start lists id =
    ((xact_page id ≡ xact_page start.base.next) ⊎ Stands lists (xact_lock_of start id) (kinds.Zero (xact_page id)))
    × ((subtrans_page id ≡ subtrans_page start.base.next) ⊎ Stands lists (subtrans_lock_of start id) (kinds.Zero (subtrans_page id)))

-- the ProcArray was told before that the pages of an id are made
abbrev pub IsTold : Start → List Entry → ℕ → Type 0
IsTold start before id =
    (subtrans_page id ≡ subtrans_page start.base.next)
    ⊎ ((by : By) × (told : ℕ) × (subtrans_page told ≡ subtrans_page id) × Contains before (record { by = by; kind = kinds.Made told }))

abbrev pub PagesOf : Start → List (List Entry) → List Entry → Kind → Type 0
PagesOf start lists before (kinds.Event event) = IfSome (given_by event) (λ id. IsMade start lists id × IsTold start before id)
PagesOf start lists before (kinds.Made id) = IsMade start lists id × (id ≤ next_given start.base.next (events_in before))
PagesOf start lists before _ = Unit {0}

abbrev pub NeedsPages : Start → List (List Entry) → ℕ → List Entry → Entry → Type 0
NeedsPages start lists lock before e = PagesOf start lists before e.kind

-- the page was made before in the same list, or was there when the life began
abbrev pub WasMade : List Entry → ℕ → ℕ → Type 0
WasMade before first page = (page ≡ first) ⊎ ((by : By) × Contains before (record { by = by; kind = kinds.Zero page }))

pub record NeedsPlace (start : Start) (lists : List (List Entry)) (lock : ℕ) (before : List Entry) (e : Entry) : Type 0 where
  pub marks : EachMark (λ mark. WasMade before (xact_page start.base.next) (xact_page mark.id)) e
  pub links : EachLink (λ link. WasMade before (subtrans_page start.base.next) (subtrans_page link.id)) e
  pub offsets : EachOffset (λ set. WasMade before (offset_page start.base.multi) (offset_page set.multi)) e
  pub slots : EachSlot (λ slot. WasMade before (member_page_in_full start.base.offset) (member_page_in_full slot.offset)) e

-- an id of the life that was given, or that comes next
abbrev pub IsIdOf : Start → List (List Entry) → ℕ → Type 0
IsIdOf start lists id = (start.base.next ≤ id) × (id ≤ next_given start.base.next (history lists))

-- so a multixact
abbrev pub IsMultiOf : Start → List (List Entry) → ℕ → Type 0
IsMultiOf start lists multi = (start.base.multi ≤ multi) × (multi ≤ next_made start.base.multi (multi_history lists))

-- and an offset of its members: the free one at some place of the history, or one before
abbrev pub IsOffsetOf : Start → List (List Entry) → ℕ → Type 0
IsOffsetOf start lists offset =
    (start.base.offset ≤ offset) × (p : ℕ) × (p ≤ length (multi_history lists)) × (offset ≤ free_offset start.base.offset (take p (multi_history lists)))

-- A page that is made is that of such a number. The pages in full.
pub record IsWanted (start : Start) (lists : List (List Entry)) (lock page : ℕ) : Type 0 where
  pub xact : (bank : ℕ) → lock ≡ xact_lock bank → (id : ℕ) × (xact_page id ≡ page) × IsIdOf start lists id
  pub subtrans : (bank : ℕ) → lock ≡ subtrans_lock bank → (id : ℕ) × (subtrans_page id ≡ page) × IsIdOf start lists id
  pub offsets : (bank : ℕ) → lock ≡ offsets_lock bank → (multi : ℕ) × (offset_page multi ≡ page) × IsMultiOf start lists multi
  pub members : (bank : ℕ) → lock ≡ members_lock bank → (offset : ℕ) × (member_page_in_full offset ≡ page) × IsOffsetOf start lists offset

abbrev pub ZeroOf : Start → List (List Entry) → ℕ → Kind → Type 0
ZeroOf start lists lock (kinds.Zero page) = IsWanted start lists lock page
ZeroOf start lists lock _ = Unit {0}

abbrev pub NeedsZero : Start → List (List Entry) → ℕ → List Entry → Entry → Type 0
NeedsZero start lists lock before e = ZeroOf start lists lock e.kind

-- The pages of each given id are made, and so are the pages of each id that the ProcArray was told of. A state, a parent,
-- an offset or a member is set on a page only behind that page's making, so a page that is made late wipes nothing. No
-- page is made before its time.
pub record PagesBeforeIds (start : Start) (lists : List (List Entry)) : Type 0 where
  pub ids : Upheld (NeedsPages start) lists
  pub changes : Upheld (NeedsPlace start) lists
  pub made : Upheld (NeedsZero start) lists

-- what a session knows that adds the entry
pub record MayHavePages (start : Start) (seen : List (List Entry)) (lock : ℕ) (before : List Entry) (e : Entry) : Type 0 where
  pub ids : NeedsPages start seen lock before e
  pub changes : NeedsPlace start seen lock before e
  pub made : NeedsZero start seen lock before e
