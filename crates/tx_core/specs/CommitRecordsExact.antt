-- A commit record names exactly what its session has open.
use Rattle.std.specs.Prelude.{◌≡◌, ℕ, List, ◌∷◌, Contains, true, IfSome}
use Rattle.tx_events.specs.declared.event.Event.{Event}
use Rattle.tx_events.specs.declared.event.Event.TheVariants as events
use Rattle.tx_events.specs.declared.record.Rec.TheVariants as records
use Rattle.tx_events.specs.declared.xact_end.XactEnd.TheVariants as ends
use Rattle.tx_events.specs.Families.{is_top}
use Rattle.tx_events.specs.Running.{open_ids}
use Rattle.tx_core.specs.declared.entry.Entry.{Entry}
use Rattle.tx_core.specs.declared.entry.Kind.{Kind}
use Rattle.tx_core.specs.declared.entry.Kind.TheVariants as kinds
use Rattle.tx_core.specs.declared.entry.Start.{Start}
use Rattle.tx_core.specs.Lists.{Upheld}
use Rattle.tx_core.specs.Locks.{log_lock, proc_lock}
use Rattle.tx_core.specs.Entries.{event_of, history, IsLinked, IsAppended}
use Rattle.tx_core.specs.Wholeness.{IsWholeIn}

abbrev pub LinksOf : Start → List (List Entry) → Kind → Type 0
LinksOf start lists (kinds.Append (records.Commit top subs)) = (id : ℕ) → Contains subs id → (parent : ℕ) × IsLinked start lists id parent
LinksOf start lists _ = Unit {0}

abbrev pub NeedsLinks : Start → List (List Entry) → ℕ → List Entry → Entry → Type 0
NeedsLinks start lists lock before e = LinksOf start lists e.kind

-- these are the ids of a top that its session has open, or that its commit event closed
abbrev pub IsExactIn : List Event → ℕ → ℕ → List ℕ → Type 0
IsExactIn = IsWholeIn ends.Commit

-- Each commit record in the log names its top and then, ascending, the subtransactions: all that its session has open,
-- or all that its commit event closed, and nothing else. So none of them was undone, nothing was given after it, and its
-- top wasn't aborted. The parent of each was set.
pub record CommitRecordsExact (start : Start) (lists : List (List Entry)) : Type 0 where
  pub exact : (session top : ℕ) (subs : List ℕ) → IsAppended lists session (records.Commit top subs) → IsExactIn (history lists) session top subs
  pub parents : Upheld (NeedsLinks start) lists

-- the session has no commit record whose ids are still open
abbrev pub HasNoRecord : List (List Entry) → ℕ → Type 0
HasNoRecord seen session = (top : ℕ) (subs : List ℕ) → IsAppended seen session (records.Commit top subs) → open_ids session (history seen) ≡ top ∷ subs → ⊥

-- the event changes what a session has open only where the session has no commit record, or is that record's commit
abbrev pub LeavesRecords : List (List Entry) → Event → Type 0
LeavesRecords seen (events.Sub by parent id) = HasNoRecord seen by.session
LeavesRecords seen (events.Undo by id) = HasNoRecord seen by.session
LeavesRecords seen (events.Abort by top) = HasNoRecord seen by.session
LeavesRecords seen _ = Unit {0}

-- a commit record names what its session has open
abbrev pub RecordMay : List (List Entry) → ℕ → Kind → Type 0
RecordMay seen session (kinds.Append (records.Commit top subs)) = (open_ids session (history seen) ≡ top ∷ subs) × (is_top (history seen) top ≡ true)
RecordMay seen session _ = Unit {0}

-- what a session knows that adds the entry
pub record MayBeExact (start : Start) (seen : List (List Entry)) (lock : ℕ) (before : List Entry) (e : Entry) : Type 0 where
  pub parents : NeedsLinks start seen lock before e
  pub event : lock ≡ proc_lock → IfSome (event_of e) (λ event. LeavesRecords seen event)
  pub ids : lock ≡ log_lock → RecordMay seen e.by.session e.kind
