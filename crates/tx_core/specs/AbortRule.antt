-- What is set aborted never committed, and a final state stays.
use Rattle.std.specs.Prelude.{◌≡◌, ℕ, ◌⊎◌, List, ◌∷◌, Contains}
use Rattle.tx_events.specs.declared.event.By.{By}
use Rattle.tx_events.specs.declared.event.Event.{Event}
use Rattle.tx_events.specs.declared.event.Event.TheVariants as events
use Rattle.tx_events.specs.declared.record.Rec.TheVariants as records
use Rattle.tx_events.specs.Events.{given_to}
use Rattle.tx_events.specs.Families.{enclosing}
use Rattle.tx_events.specs.Running.{open_ids}
use Rattle.tx_core.specs.declared.entry.Entry.{Entry}
use Rattle.tx_core.specs.declared.entry.Kind.{Kind}
use Rattle.tx_core.specs.declared.entry.Kind.TheVariants as kinds
use Rattle.tx_core.specs.declared.entry.Start.{Start}
use Rattle.tx_core.specs.declared.entry.State.{State}
use Rattle.tx_core.specs.declared.entry.State.TheVariants as states
use Rattle.notes.specs.Lists.{at}
use Rattle.tx_core.specs.Lists.{Upheld}
use Rattle.tx_core.specs.Locks.{log_lock}
use Rattle.tx_core.specs.Entries.{Mark, asks_in, events_in, history, marks, EachMark, EachAsk, IsMarked, IsAppended}

-- what an undo or an abort closes was set aborted
abbrev pub AbortsOf : Start → List (List Entry) → List Event → Kind → Type 0
AbortsOf start lists before (kinds.Event (events.Undo by id)) =
    (x : ℕ) → Contains (open_ids by.session before) x → Contains (enclosing before x) id → IsMarked start lists x states.Aborted
AbortsOf start lists before (kinds.Event (events.Abort by top)) = (x : ℕ) → Contains (open_ids by.session before) x → IsMarked start lists x states.Aborted
AbortsOf start lists before _ = Unit {0}

abbrev pub NeedsAborts : Start → List (List Entry) → ℕ → List Entry → Entry → Type 0
NeedsAborts start lists lock before e = AbortsOf start lists (events_in before) e.kind

-- An entry of the session sets the id to a state for it, or asks another session to. The session knows all such entries,
-- since they are its own.
pub record Asks (lists : List (List Entry)) (session id : ℕ) (state : State) : Type 0 where
  pub lock : ℕ
  pub entry : Entry
  pub stands : Contains (at lists lock) entry
  pub own : entry.by.session ≡ session
  pub caller : By
  pub same : caller.session ≡ session
  pub asks : Contains (asks_in entry) (record { caller = caller; id = id; state = state })

abbrev pub AsksAbort : List (List Entry) → ℕ → ℕ → Type 0
AsksAbort lists session id = Asks lists session id states.Aborted

-- the id was given to the session for which its state is set or asked for
abbrev pub GivenOf : List (List Entry) → Mark → Type 0
GivenOf lists mark = Contains (given_to mark.caller.session (history lists)) mark.id

abbrev pub NeedsGiven : List (List Entry) → ℕ → List Entry → Entry → Type 0
NeedsGiven lists lock before e = EachAsk (λ mark. GivenOf lists mark) e

-- and where it is set, that session sets it itself, or asked for it
abbrev pub AskedOf : List (List Entry) → ℕ → Mark → Type 0
AskedOf lists adder mark = (mark.caller.session ≡ adder) ⊎ Asks lists mark.caller.session mark.id mark.state

abbrev pub NeedsAsked : List (List Entry) → ℕ → List Entry → Entry → Type 0
NeedsAsked lists lock before e = EachMark (λ mark. AskedOf lists e.by.session mark) e

-- a state set before is the same, or the one that comes before committed
abbrev pub IsSameAfter : List Entry → Mark → Type 0
IsSameAfter before mark = (old : Mark) → Contains (marks before) old → old.id ≡ mark.id → (old.state ≡ mark.state) ⊎ (old.state ≡ states.SubCommitted)

pub record NeedsSame (lists : List (List Entry)) (lock : ℕ) (before : List Entry) (e : Entry) : Type 0 where
  pub later : EachMark (λ mark. IsSameAfter before mark) e
  pub alike : EachMark (λ mark. EachMark (λ other. other.id ≡ mark.id → other.state ≡ mark.state) e) e

-- An undo or an abort comes when all that it closes was set aborted. A state is set only for the session that was given
-- the id, and only where that session sets it or asked for it. No id of a commit record was asked to be aborted by the
-- record's session. A committed or aborted state is set to no other.
pub record AbortRule (start : Start) (lists : List (List Entry)) : Type 0 where
  pub closed : Upheld (NeedsAborts start) lists
  pub given : Upheld NeedsGiven lists
  pub asked : Upheld NeedsAsked lists
  pub apart : (session top : ℕ) (subs : List ℕ) (id : ℕ) → IsAppended lists session (records.Commit top subs) → Contains (top ∷ subs) id → AsksAbort lists session id → ⊥
  pub final : Upheld NeedsSame lists

-- the session asked for no abort of an id that its commit record names
abbrev pub RecordUnasked : List (List Entry) → ℕ → Kind → Type 0
RecordUnasked seen session (kinds.Append (records.Commit top subs)) = (id : ℕ) → Contains (top ∷ subs) id → AsksAbort seen session id → ⊥
RecordUnasked seen session _ = Unit {0}

-- no commit record of the session names the id that it asks to be set aborted
abbrev pub AskUnrecorded : List (List Entry) → ℕ → ℕ → ℕ → State → Type 0
AskUnrecorded seen session caller id states.Aborted = caller ≡ session → (top : ℕ) (subs : List ℕ) → IsAppended seen session (records.Commit top subs) → Contains (top ∷ subs) id → ⊥
AskUnrecorded seen session caller id _ = Unit {0}

-- what a session knows that adds the entry
pub record MayAbort (start : Start) (seen : List (List Entry)) (lock : ℕ) (before : List Entry) (e : Entry) : Type 0 where
  pub closed : NeedsAborts start seen lock before e
  pub given : NeedsGiven seen lock before e
  pub asked : NeedsAsked seen lock before e
  pub unasked : lock ≡ log_lock → RecordUnasked seen e.by.session e.kind
  pub unrecorded : EachAsk (λ mark. AskUnrecorded seen e.by.session mark.caller.session mark.id mark.state) e
  pub final : NeedsSame seen lock before e
