-- What the undo of a savepoint needs, and leaves.
use Rattle.std.specs.Prelude.{◌≡◌, ℕ, ◌≤◌, nat_le, not, cond, List, [], ◌∷◌, ◌++◌, Contains, Option, None, Some}
use Rattle.std.specs.List.{filter}
use Rattle.tx_events.specs.declared.event.Event.TheVariants as events
use Rattle.tx_core.specs.declared.entry.Entry.{Entry}
use Rattle.tx_core.specs.declared.entry.Start.{Start}
use Rattle.tx_core.specs.declared.entry.State.TheVariants as states
use Rattle.tx_core.specs.Entries.{IsMarked}
use Rattle.engine_parts.specs.declared.session.Session.{Session}
use Rattle.engine_parts.specs.declared.session.Stage.TheVariants as stages
use Rattle.engine_parts.specs.declared.session.Unlinked.{Unlinked}
use Rattle.engine_parts.specs.Sessions.{by_at}
use Rattle.engine_parts.specs.Steps.{WentOn}

-- the open ids from the savepoint's on are aborted
abbrev pub AreRolledBack : Start → List (List Entry) → List ℕ → ℕ → Type 0
AreRolledBack start lists opened savepoint =
    (id : ℕ) → Contains opened id → savepoint ≤ id → IsMarked start lists id states.Aborted

-- the id whose parent is still to be recorded, if it stays open
abbrev pub unlinked_below : ℕ → Option Unlinked → Option Unlinked
unlinked_below savepoint None = None
unlinked_below savepoint (Some u) = cond (nat_le savepoint u.id) None (Some u)

-- the level is gone, with all ids from its own on
pub record IsUndone (savepoint : ℕ) (s s' : Session) : Type 0 where
  pub named : s.levels.level_ids.items ≡ s'.levels.level_ids.items ++ savepoint ∷ []
  pub unnamed : s'.levels.unnamed ≡ s.levels.unnamed
  pub opened : s'.levels.open_ids.items ≡ filter (λ x. not (nat_le savepoint x)) s.levels.open_ids.items
  pub registered : s'.levels.registered ≡ s.levels.registered
  pub count : s'.levels.commands ≡ s.levels.commands
  pub stage : s'.stage ≡ stages.Clear
  pub unlinked : s'.unlinked ≡ unlinked_below savepoint s.unlinked
  pub making : s'.making ≡ s.making

-- the undo is the session's only new event
pub record HasUndone (n savepoint : ℕ) (s s' : Session) (lists more : List (List Entry)) : Type 0 where
  pub went : WentOn n (events.Undo (by_at n s.levels.commands) savepoint ∷ []) lists more
  pub session : IsUndone savepoint s s'
