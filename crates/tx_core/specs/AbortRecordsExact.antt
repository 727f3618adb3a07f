-- An abort record names exactly what its session has open.
use Rattle.std.specs.Prelude.{◌≡◌, ℕ, List, ◌∷◌, true, IfSome}
use Rattle.tx_events.specs.declared.event.Event.{Event}
use Rattle.tx_events.specs.declared.event.Event.TheVariants as events
use Rattle.tx_events.specs.declared.record.Rec.TheVariants as records
use Rattle.tx_events.specs.declared.xact_end.XactEnd.TheVariants as ends
use Rattle.tx_events.specs.Families.{is_top}
use Rattle.tx_events.specs.Running.{open_ids}
use Rattle.tx_core.specs.declared.entry.Entry.{Entry}
use Rattle.tx_core.specs.declared.entry.Kind.{Kind}
use Rattle.tx_core.specs.declared.entry.Kind.TheVariants as kinds
use Rattle.tx_core.specs.Locks.{log_lock, proc_lock}
use Rattle.tx_core.specs.Entries.{event_of, history, IsAppended}
use Rattle.tx_core.specs.Wholeness.{IsWholeIn}

-- Each abort record in the log names its top and then, ascending, the subtransactions: all that its session has open, or
-- all that its abort event closed, and nothing else. So none of them was undone, nothing was given after it, and its top
-- didn't commit.
pub record AbortRecordsExact (lists : List (List Entry)) : Type 0 where
  pub exact : (session top : ℕ) (subs : List ℕ) → IsAppended lists session (records.Abort top subs)
      → IsWholeIn ends.Abort (history lists) session top subs

-- the session has no abort record whose ids are still open
abbrev pub HasNoAbortRecord : List (List Entry) → ℕ → Type 0
HasNoAbortRecord seen session =
    (top : ℕ) (subs : List ℕ) → IsAppended seen session (records.Abort top subs)
    → open_ids session (history seen) ≡ top ∷ subs → ⊥

-- The event changes what a session has open only where the session has no abort record, or is that record's abort. No
-- commit event comes behind one, as its ids have a commit record.
abbrev pub LeavesAborts : List (List Entry) → Event → Type 0
LeavesAborts seen (events.Sub by parent id) = HasNoAbortRecord seen by.session
LeavesAborts seen (events.Undo by id) = HasNoAbortRecord seen by.session
LeavesAborts seen _ = Unit {0}

-- an abort record names what its session has open
abbrev pub AbortMay : List (List Entry) → ℕ → Kind → Type 0
AbortMay seen session (kinds.Append (records.Abort top subs)) =
    (open_ids session (history seen) ≡ top ∷ subs) × (is_top (history seen) top ≡ true)
AbortMay seen session _ = Unit {0}

-- what a session knows that adds the entry
pub record MayEndExactly (seen : List (List Entry)) (lock : ℕ) (e : Entry) : Type 0 where
  pub event : lock ≡ proc_lock → IfSome (event_of e) (λ event. LeavesAborts seen event)
  pub ids : lock ≡ log_lock → AbortMay seen e.by.session e.kind
