-- The states of an undo are set, and the savepoint is closed.
use Rattle.std.specs.Prelude.{◌≡◌, ℕ, ◌-◌, ◌≤◌, List, [], ◌∷◌, Contains, Result, Ok, Err, Some}
use Rattle.std.specs.List.{slice_range}
use Rattle.disk_core.specs.declared.log_disk.LogDisk as logs
use Rattle.disk_core.specs.declared.page_disk.PageDisk as disks
use Rattle.tx_events.specs.declared.event.Event.TheVariants as events
use Rattle.tx_events.specs.declared.refusal.Refusal.{Refusal}
use Rattle.tx_core.specs.declared.entry.Entry.{Entry}
use Rattle.bank_sections.specs.Faults.{IsXactFault}
use Rattle.engine_parts.specs.declared.session.Caller.{Caller}
use Rattle.engine_parts.specs.declared.session.Session.{Session}
use Rattle.engine_parts.specs.declared.session.Stage.TheVariants as stages
use Rattle.engine_parts.specs.Sessions.{by_at, inner_id}
use Rattle.engine_parts.specs.Steps.{GoesOn}
use Rattle.proc_sections.specs.Undos.{IsUndone}

-- the ids from the first one to before the past one were given in the innermost savepoint
abbrev pub AreOfSavepoint : Session → ℕ → ℕ → Type 0
AreOfSavepoint s first past =
    (savepoint : ℕ) → inner_id s ≡ Some savepoint
    → (id : ℕ) → Contains (slice_range s.levels.open_ids.items first past) id → savepoint ≤ id

-- the undo is the session's only new event, and the level is gone with its ids; or a fault stopped it, and it is pending
abbrev pub Undoes : ℕ → ℕ → Session → Session → List (List Entry) → List (List Entry) → Result (Unit {0}) Refusal → Type 0
Undoes n savepoint s s' lists more (Ok _) =
    GoesOn n (events.Undo (by_at n s.levels.commands) savepoint ∷ []) lists more × IsUndone savepoint s s'
Undoes n savepoint s s' lists more (Err r) =
    GoesOn n [] lists more × (s'.levels ≡ s.levels) × (s'.stage ≡ stages.Undoing)
    × IsXactFault more (by_at n s.levels.commands) r × (s'.making ≡ s.making)

module _ {L P : Type 0} {l : logs.Ghosts L} {p : disks.Ghosts P} where
  -- the innermost level, which has no id, is closed
  pub record IsUnwound (old new : Caller L P l p) : Type 0 where
    pub pass : new.pass ≡ old.pass
    pub number : new.number ≡ old.number
    pub levels : new.session.levels ≡ record old.session.levels { unnamed = old.session.levels.unnamed - 1 }
    pub stage : new.session.stage ≡ old.session.stage
    pub unlinked : new.session.unlinked ≡ old.session.unlinked
    pub making : new.session.making ≡ old.session.making
