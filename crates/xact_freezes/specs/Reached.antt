-- What an `ok` trim of a life of few ids cut.
use Rattle.std.specs.Prelude.{◌⊎◌, ℕ, ◌+◌, ◌%◌, ◌<◌, ◌≤◌, List, length}
use Rattle.tx_events.specs.Base.{IsBase}
use Rattle.tx_events.specs.Events.{given}
use Rattle.tx_events.specs.Ids.{id_before}
use Rattle.tx_events.specs.declared.event.By.{By}
use Rattle.tx_core.specs.declared.entry.Entry.{Entry}
use Rattle.tx_core.specs.declared.entry.Start.{Start}
use Rattle.tx_core.specs.EngineInvariant.{EngineInvariant}
use Rattle.tx_core.specs.Entries.{AreFewIds, history}
use Rattle.tx_core.specs.Locks.{subtrans_lock, subtrans_page, xact_lock, xact_page}
use Rattle.xact_freezes.specs.Trims.{HasTrimmed, IsCutBy}

-- Each bank of pg_subtrans before the page of the id before the oldest xmin.
abbrev pub ParentsCut : Type 0
ParentsCut = (start : Start) (before lists : List (List Entry)) (by : By) → EngineInvariant start lists → IsBase start.base → AreFewIds lists
    → (t : HasTrimmed start before lists by) → (bank : ℕ) → bank < start.banks
    → IsCutBy lists by (subtrans_lock bank) (subtrans_page (id_before t.xmin))

-- Each bank of pg_xact before a page that is less than a segment of 32 before that of the oldest id.
abbrev pub StatesCutNear : Type 0
StatesCutNear = (start : Start) (before lists : List (List Entry)) (by : By) → EngineInvariant start lists → IsBase start.base → AreFewIds lists
    → (t : HasTrimmed start before lists by) → (bank : ℕ) → bank < start.banks
    → (page : ℕ) × (page ≤ xact_page t.oldest) × (xact_page t.oldest < page + 32) × IsCutBy lists by (xact_lock bank) page

-- The oldest id at the begin of the life is on one of the first three pages of its segment of 32, or the life gave fewer
-- than 1,950,000 ids.
abbrev pub IsRoomy : Start → List (List Entry) → Type 0
IsRoomy start lists = (xact_page start.base.oldest % 32 ≤ 2) ⊎ (length (given (history lists)) < 1950000)

-- Then before that page itself.
abbrev pub StatesCut : Type 0
StatesCut = (start : Start) (before lists : List (List Entry)) (by : By) → EngineInvariant start lists → IsBase start.base → AreFewIds lists
    → IsRoomy start lists
    → (t : HasTrimmed start before lists by) → (bank : ℕ) → bank < start.banks
    → IsCutBy lists by (xact_lock bank) (xact_page t.oldest)
