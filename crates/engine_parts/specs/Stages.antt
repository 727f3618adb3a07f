-- How far the end of a transaction has come, by the lists.
use Rattle.std.specs.Prelude.{◌≡◌, ℕ, ◌+◌, ◌<◌, ◌≤◌, Bool, true, false, List, ◌∷◌, Contains, Option, None, Some, IfSome, length, slice_get}
use Rattle.tx_events.specs.declared.event.By.{By}
use Rattle.tx_events.specs.declared.record.Rec.{Rec}
use Rattle.tx_events.specs.declared.record.Rec.TheVariants as records
use Rattle.tx_events.specs.declared.refusal.Refusal.{Refusal}
use Rattle.tx_events.specs.declared.refusal.Refusal.TheVariants as refusals
use Rattle.slru_bank.specs.declared.plan.PlanStep.{PlanStep}
use Rattle.slru_bank.specs.declared.xact_state.State as stored
use Rattle.slru_bank.specs.declared.xact_state.State.TheVariants as named
use Rattle.slru_bank.specs.Plan.{plan}
use Rattle.slru_bank.specs.Steps.{step_ids}
use Rattle.tx_core.specs.declared.entry.Entry.{Entry}
use Rattle.tx_core.specs.declared.entry.Start.{Start}
use Rattle.tx_core.specs.declared.entry.State.{State}
use Rattle.tx_core.specs.declared.entry.State.TheVariants as states
use Rattle.tx_core.specs.AbortRule.{Asks}
use Rattle.tx_core.specs.Entries.{IsFlushed, IsMarked, records_of}
use Rattle.engine_parts.specs.declared.session.Stage.{Stage}
use Rattle.tx_core.specs.RecordsOnce.{HasNoAbort}
use Rattle.engine_parts.specs.declared.session.Stage.TheVariants as stages

-- whether a commit record of what is open may stand in the log
abbrev pub may_be_recorded : Stage → Bool
may_be_recorded (stages.Logged number) = true
may_be_recorded (stages.Settling steps) = true
may_be_recorded _ = false

-- whether an abort record of some of it may
abbrev pub may_be_aborted : Stage → Bool
may_be_aborted stages.Aborting = true
may_be_aborted _ = false

-- no abort record of the session names one of these ids
abbrev pub AreUnaborted : List (List Entry) → ℕ → List ℕ → Type 0
AreUnaborted lists n ids = (id : ℕ) → Contains ids id → HasNoAbort lists n id

-- the session asked for no state of these ids
abbrev pub AreUnasked : List (List Entry) → ℕ → List ℕ → Type 0
AreUnasked lists n ids = (id : ℕ) (state : State) → Contains ids id → Asks lists n id state → ⊥

-- why a call that needs the transaction as it was is refused in this stage
abbrev pub pending_in : Stage → Option Refusal
pending_in stages.Clear = None
pending_in (stages.Logged number) = Some refusals.CommitPending
pending_in (stages.Settling steps) = Some refusals.CommitPending
pending_in stages.Aborting = Some refusals.AbortPending
pending_in stages.Undoing = Some refusals.UndoPending

-- between two moments the session asked for no more states
abbrev pub AsksNothing : ℕ → List (List Entry) → List (List Entry) → Type 0
AsksNothing n lists more = (id : ℕ) (state : State) → Asks more n id state → Asks lists n id state

-- the session appended this record, under this number
pub record IsAppendedAt (start : Start) (lists : List (List Entry)) (n : ℕ) (rec : Rec) (number : ℕ) : Type 0 where
  pub place : ℕ
  pub by : By
  pub own : by.session ≡ n
  pub stands : slice_get (records_of lists) place ≡ Some (by, rec)
  pub numbered : number ≡ start.from + place

-- the commit record of the open ids stands under this number, and the session asked for no state of them yet
pub record IsLogged (start : Start) (lists : List (List Entry)) (n : ℕ) (opened : List ℕ) (number : ℕ) : Type 0 where
  pub top : ℕ
  pub subs : List ℕ
  pub ids : opened ≡ top ∷ subs
  pub appended : IsAppendedAt start lists n (records.Commit top subs) number
  pub unasked : AreUnasked lists n opened

-- the state that a step of a commit sets; none where its ids would be in progress
abbrev pub state_of : stored.State → Option State
state_of named.InProgress = None
state_of named.Committed = Some states.Committed
state_of named.Aborted = Some states.Aborted
state_of named.SubCommitted = Some states.SubCommitted

-- the first so many steps are done
abbrev pub AreDone : Start → List (List Entry) → List ℕ → List PlanStep → ℕ → Type 0
AreDone start lists opened plan steps =
    (j : ℕ) (p : PlanStep) → j < steps → slice_get plan j ≡ Some p → (id : ℕ) → Contains (step_ids opened p) id
    → IfSome (state_of p.state) (λ state. IsMarked start lists id state)

-- The commit record of the open ids is on disk, and the first so many steps of the tree rule are done. As long as the
-- next step sets sub-committed, the session asked for no committed state of any of the ids.
pub record IsSettling (start : Start) (lists : List (List Entry)) (n : ℕ) (opened : List ℕ) (steps : ℕ) : Type 0 where
  pub top : ℕ
  pub subs : List ℕ
  pub ids : opened ≡ top ∷ subs
  pub flushed : IsFlushed start lists n (records.Commit top subs)
  pub upto : steps ≤ length (plan top subs)
  pub done : AreDone start lists opened (plan top subs) steps
  pub fresh : (p : PlanStep) → slice_get (plan top subs) steps ≡ Some p → state_of p.state ≡ Some states.SubCommitted
      → (id : ℕ) → Contains opened id → Asks lists n id states.Committed → ⊥

-- the innermost level has an id, and of the open ids before it the session asked for no state
pub record IsUndoing (lists : List (List Entry)) (n : ℕ) (inner : Option ℕ) (opened : List ℕ) : Type 0 where
  pub savepoint : ℕ
  pub innermost : inner ≡ Some savepoint
  pub unasked : (id : ℕ) (state : State) → Contains opened id → id < savepoint → Asks lists n id state → ⊥

-- What the lists say where the session's end has come so far. An undo is of the innermost level.
abbrev pub IsInStage : Start → List (List Entry) → ℕ → Option ℕ → List ℕ → Stage → Type 0
IsInStage start lists n inner opened stages.Clear = AreUnasked lists n opened
IsInStage start lists n inner opened (stages.Logged number) = IsLogged start lists n opened number
IsInStage start lists n inner opened (stages.Settling steps) = IsSettling start lists n opened steps
IsInStage start lists n inner opened stages.Aborting = Unit {0}
IsInStage start lists n inner opened stages.Undoing = IsUndoing lists n inner opened
