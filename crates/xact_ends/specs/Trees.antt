-- The states of a commit are set step by step.
use Rattle.std.specs.Prelude.{◌≡◌, ℕ, ◌+◌, ◌≤◌, List, [], ◌∷◌, Contains, Result, Ok, Err, Some, slice_get}
use Rattle.slru_bank.specs.declared.plan.PlanStep.{PlanStep}
use Rattle.slru_bank.specs.declared.xact_state.State as stored
use Rattle.slru_bank.specs.declared.xact_state.State.TheVariants as named
use Rattle.slru_bank.specs.Plan.{plan}
use Rattle.tx_events.specs.declared.refusal.Refusal.{Refusal}
use Rattle.tx_core.specs.declared.entry.Entry.{Entry}
use Rattle.tx_core.specs.declared.entry.Start.{Start}
use Rattle.tx_core.specs.declared.entry.State.TheVariants as states
use Rattle.tx_core.specs.Entries.{IsMarked}
use Rattle.engine_parts.specs.declared.session.Session.{Session}
use Rattle.engine_parts.specs.declared.session.Stage.TheVariants as stages
use Rattle.engine_parts.specs.Sessions.{by_at}
use Rattle.engine_parts.specs.Steps.{GoesOn}
use Rattle.bank_sections.specs.Faults.{IsXactFault}

-- a step of a commit sets one of these
abbrev pub IsStepState : stored.State → Type 0
IsStepState named.Committed = Unit {0}
IsStepState named.SubCommitted = Unit {0}
IsStepState _ = ⊥

-- step k of the commit of these open ids
abbrev pub IsStepOf : List ℕ → ℕ → PlanStep → Type 0
IsStepOf opened k p = (top : ℕ) (subs : List ℕ) → opened ≡ top ∷ subs → slice_get (plan top subs) k ≡ Some p

-- one step more is done, or a volume failed and none is
abbrev pub SetsStep : ℕ → ℕ → Session → Session → List (List Entry) → List (List Entry) → Result (Unit {0}) Refusal
    → Type 0
SetsStep n k s s' lists more (Ok _) = GoesOn n [] lists more × (s' ≡ record s { stage = stages.Settling (k + 1) })
SetsStep n k s s' lists more (Err r) =
    GoesOn n [] lists more × (s' ≡ s) × IsXactFault more (by_at n s.levels.commands) r

-- so many steps are done
abbrev pub IsSettledTo : Session → Session → ℕ → Type 0
IsSettledTo s s' steps = s' ≡ record s { stage = stages.Settling steps }

-- all ids are committed, or a volume failed behind so many steps
abbrev pub Settles : Start → ℕ → ℕ → Session → Session → List (List Entry) → List (List Entry)
    → Result (Unit {0}) Refusal → Type 0
Settles start n from s s' lists more (Ok _) =
    GoesOn n [] lists more × ((steps : ℕ) × IsSettledTo s s' steps)
    × ((id : ℕ) → Contains s.levels.open_ids.items id → IsMarked start more id states.Committed)
Settles start n from s s' lists more (Err r) =
    GoesOn n [] lists more × ((steps : ℕ) × (from ≤ steps) × IsSettledTo s s' steps)
    × IsXactFault more (by_at n s.levels.commands) r
