-- The rule by which a verdict is given, and what it must answer.
use Rattle.std.specs.List.{filter_map, last_or, list_any, slice_get}
use Rattle.std.specs.Prelude.{Bool, List, None, Option, Some, [], cond, false, nat_le, nat_lt, not, take, true, ℕ, ◌&&◌, ◌<◌, ◌==◌, ◌||◌, ◌∷◌, ◌≡◌, ◌≤◌, ◌⊎◌}
use Rattle.tx_events.specs.Ids.{IsFullId}
use Rattle.tx_events.specs.declared.event.By.{By}
use Rattle.tx_events.specs.declared.snapshot.SnapData.{SnapData}
use Rattle.tx_events.specs.Snapshots.{is_overflowed, snapshot_data, snapshot_xmin}
use Rattle.tx_events.specs.Visible.{is_visible}
use Rattle.tx_core.specs.declared.entry.Entry.{Entry}
use Rattle.tx_core.specs.declared.entry.Start.{Start}
use Rattle.tx_core.specs.declared.entry.State.{State}
use Rattle.tx_core.specs.CleanStart.{CleanStart}
use Rattle.tx_core.specs.EngineInvariant.{EngineInvariant}
use Rattle.tx_core.specs.Entries.{AreFewIds, IsLinked, Mark, history, marks}
use Rattle.notes.specs.Lists.{Grows, at}
use Rattle.tx_core.specs.Locks.{xact_lock_of}
use Rattle.tx_events.specs.declared.event.Event.TheVariants as events
use Rattle.tx_core.specs.declared.entry.State.TheVariants as states

abbrev pub state_for : ℕ → Mark → Option State
state_for id mark = cond (mark.id == id) (Some mark.state) None

-- the state that was set last, or else what the pages showed at the start
abbrev pub state_read : (ℕ → Option State) → List Mark → ℕ → Option State
state_read shown ms id = last_or (shown id) (filter_map (state_for id) ms)

abbrev pub is_committed : Option State → Bool
is_committed (Some states.Committed) = true
is_committed (Some states.Aborted) = false
is_committed (Some states.SubCommitted) = false
is_committed None = false

abbrev pub is_among : ℕ → List ℕ → Bool
is_among x ids = list_any (λ y. y == x) ids

-- what a snapshot says of an id below its xmax whose topmost parent is this one
abbrev pub says_ended : SnapData → ℕ → ℕ → Bool
says_ended snap topmost x =
    cond (nat_lt x snap.xmin) true
    (cond snap.overflowed (cond (nat_lt topmost snap.xmin) true (not (is_among topmost snap.xip))) (not (is_among x snap.xip || is_among x snap.subxip)))

-- the verdict, from the state read and the topmost parent
abbrev pub verdict : SnapData → Option State → ℕ → ℕ → Bool
verdict snap state topmost x = cond (nat_le snap.xmax x) false (is_committed state && says_ended snap topmost x)

-- The ids of a climb from x over the parents that were read: it ends at an id before the xmin, or at one of
-- which no parent was set in the lists as they were at the state's look. Parents are read later.
abbrev pub IsClimb : Start → List (List Entry) → List (List Entry) → ℕ → ℕ → List ℕ → ℕ → Type 0
IsClimb start lists more xmin x [] topmost = (topmost ≡ x) × ((x < xmin) ⊎ ((parent : ℕ) → IsLinked start lists x parent → ⊥))
IsClimb start lists more xmin x (parent ∷ parents) topmost = IsLinked start more x parent × IsClimb start lists more xmin parent parents topmost

-- The same of any snapshot, where the state was read at one look and the parents at later ones.
abbrev pub Decides : Type 0
Decides = (start : Start) (lists more : List (List Entry)) (shown : ℕ → Option State) (p : ℕ) (by : By) (name : List ℕ) (x topmost : ℕ) (parents : List ℕ) →
    EngineInvariant start lists → EngineInvariant start more → Grows lists more → CleanStart start shown → slice_get (history lists) p ≡ Some (events.Snap name by)
    → IsFullId x → start.base.oldest ≤ x → AreFewIds lists
    → (is_overflowed start.base.next (take p (history lists)) ≡ true → IsClimb start lists more (snapshot_xmin start.base.next (take p (history lists))) x parents topmost)
    → verdict (snapshot_data start.base.next (take p (history lists))) (state_read shown (marks (at lists (xact_lock_of start x))) x) topmost x ≡ is_visible start.committed (take p (history lists)) x

-- This answer is right of the state and the topmost parent: wherever they were read so, it is whether x is visible at the
-- snapshot.
abbrev pub IsRight : SnapData → Option State → ℕ → ℕ → Bool → Type 0
IsRight snap state topmost x answer = (start : Start) (lists more : List (List Entry)) (shown : ℕ → Option State) (p : ℕ) (by : By) (name : List ℕ) (parents : List ℕ) →
    EngineInvariant start lists → EngineInvariant start more → Grows lists more → CleanStart start shown → slice_get (history lists) p ≡ Some (events.Snap name by)
    → snap ≡ snapshot_data start.base.next (take p (history lists))
    → state ≡ state_read shown (marks (at lists (xact_lock_of start x))) x
    → IsFullId x → start.base.oldest ≤ x → AreFewIds lists
    → (snap.overflowed ≡ true → IsClimb start lists more snap.xmin x parents topmost)
    → answer ≡ is_visible start.committed (take p (history lists)) x
