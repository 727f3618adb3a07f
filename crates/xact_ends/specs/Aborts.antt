-- The states of an abort are set, and the transaction ends.
use Rattle.std.specs.Prelude.{◌≡◌, ℕ, List, [], Contains, Result, Ok, Err, slice_index}
use Rattle.std.specs.List.{slice_range}
use Rattle.tx_events.specs.declared.refusal.Refusal.{Refusal}
use Rattle.tx_events.specs.declared.xact_end.XactEnd.TheVariants as ends
use Rattle.tx_core.specs.declared.entry.Entry.{Entry}
use Rattle.tx_core.specs.declared.entry.Start.{Start}
use Rattle.tx_core.specs.declared.entry.State.TheVariants as states
use Rattle.tx_core.specs.Entries.{IsMarked}
use Rattle.tx_core.specs.Locks.{xact_page}
use Rattle.engine_parts.specs.declared.session.Session.{Session}
use Rattle.engine_parts.specs.declared.session.Stage.TheVariants as stages
use Rattle.engine_parts.specs.Sessions.{by_at}
use Rattle.engine_parts.specs.Steps.{GoesOn}
use Rattle.xact_ends.specs.Ends.{HasFinished}
use Rattle.bank_sections.specs.Faults.{IsXactFault}

-- the ids from the first one to before the past one lie on one page
abbrev pub IsOnePage : List ℕ → ℕ → ℕ → Type 0
IsOnePage ids first past =
    (id : ℕ) → Contains (slice_range ids first past) id → xact_page id ≡ xact_page (slice_index ids first)

-- the ids from the first one to before the past one are aborted
abbrev pub AreAborted : Start → List (List Entry) → List ℕ → ℕ → ℕ → Type 0
AreAborted start lists ids first past =
    (id : ℕ) → Contains (slice_range ids first past) id → IsMarked start lists id states.Aborted

-- they were set so, or a volume of pg_xact failed
abbrev pub SetsAborted : Start → ℕ → Session → Session → ℕ → ℕ → List (List Entry) → List (List Entry)
    → Result (Unit {0}) Refusal → Type 0
SetsAborted start n s s' first past lists more (Ok _) =
    GoesOn n [] lists more × (s' ≡ s) × AreAborted start more s.levels.open_ids.items first past
SetsAborted start n s s' first past lists more (Err r) =
    GoesOn n [] lists more × (s' ≡ s) × IsXactFault more (by_at n s.levels.commands) r

-- the abort is over, or a fault stopped it, and it is pending
abbrev pub Aborts : ℕ → Session → Session → List (List Entry) → List (List Entry) → Result (Unit {0}) Refusal → Type 0
Aborts n s s' lists more (Ok _) = HasFinished n ends.Abort s s' lists more
Aborts n s s' lists more (Err r) =
    GoesOn n [] lists more × (s'.levels ≡ s.levels) × (s'.stage ≡ stages.Aborting)
    × IsXactFault more (by_at n s.levels.commands) r × (s'.making ≡ s.making)
