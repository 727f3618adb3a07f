-- A transaction counts as ended only when its committed states stand.
use Rattle.std.specs.Prelude.{ℕ, List, ◌∷◌, Contains}
use Rattle.tx_events.specs.declared.event.Event.TheVariants as events
use Rattle.tx_events.specs.declared.record.Rec.TheVariants as records
use Rattle.tx_core.specs.declared.entry.Entry.{Entry}
use Rattle.tx_core.specs.declared.entry.Kind.{Kind}
use Rattle.tx_core.specs.declared.entry.Kind.TheVariants as kinds
use Rattle.tx_core.specs.declared.entry.Start.{Start}
use Rattle.tx_core.specs.declared.entry.State.TheVariants as states
use Rattle.tx_core.specs.Lists.{Upheld}
use Rattle.tx_core.specs.Entries.{IsMarked, IsAppended}

abbrev pub StatesOf : Start → List (List Entry) → Kind → Type 0
StatesOf start lists (kinds.Event (events.Commit by top)) =
    (subs : List ℕ) × IsAppended lists by.session (records.Commit top subs) × ((id : ℕ) → Contains (top ∷ subs) id → IsMarked start lists id states.Committed)
StatesOf start lists _ = Unit {0}

abbrev pub NeedsStates : Start → List (List Entry) → ℕ → List Entry → Entry → Type 0
NeedsStates start lists lock before e = StatesOf start lists e.kind

-- Each commit event has its commit record, and all ids of that record were set committed.
pub record StatusBeforeCommit (start : Start) (lists : List (List Entry)) : Type 0 where
  pub each : Upheld (NeedsStates start) lists
