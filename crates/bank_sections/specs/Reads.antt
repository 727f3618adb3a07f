-- What the pages of a bank say of an id, by the bank's list, in a life of few ids: else two full pages of one stored
-- number couldn't be told apart.
use Rattle.std.specs.Prelude.{◌≡◌, ℕ, ◌≤◌, List, Option, None, Some}
use Rattle.notes.specs.Lists.{at}
use Rattle.tx_core.specs.declared.entry.Entry.{Entry}
use Rattle.tx_core.specs.declared.entry.Start.{Start}
use Rattle.tx_core.specs.declared.entry.State.{State}
use Rattle.tx_core.specs.CleanStart.{CleanStart}
use Rattle.tx_core.specs.Entries.{IsLinked, marks, AreFewIds}
use Rattle.tx_core.specs.Locks.{xact_lock_of}
use Rattle.tx_core.specs.Verdict.{state_read}
use Rattle.tx_events.specs.declared.order.Xid.{Xid}
use Rattle.tx_events.specs.Nearest.{IsNearest}
use Rattle.engine_parts.specs.Stand.{IsInUse}

-- the state of x that was set last, or else what the pages showed at a clean start
abbrev pub IsStateRead : Start → List (List Entry) → ℕ → Option State → Type 0
IsStateRead start lists x state =
    IsInUse start x → AreFewIds lists
    → (shown : ℕ → Option State) × CleanStart start shown
    × (state ≡ state_read shown (marks (at lists (xact_lock_of start x))) x)

-- the parent was set, and where there is none, none was set
abbrev pub IsParentOf : Start → List (List Entry) → ℕ → Option ℕ → Type 0
IsParentOf start lists x None = (parent : ℕ) → IsLinked start lists x parent → ⊥
IsParentOf start lists x (Some parent) = IsLinked start lists x parent

abbrev pub IsParentRead : Start → List (List Entry) → ℕ → Option ℕ → Type 0
IsParentRead start lists x parent = IsInUse start x → AreFewIds lists → IsParentOf start lists x parent

-- the full id that a stored parent means near x; a special one means none
abbrev pub IsParentNear : ℕ → Option Xid → Option ℕ → Type 0
IsParentNear x found (Some y) = (p : ℕ) × (found ≡ Some (record { number = p })) × IsNearest x p y
IsParentNear x found None = (p : ℕ) → 3 ≤ p → found ≡ Some (record { number = p }) → (y : ℕ) → IsNearest x p y → ⊥
