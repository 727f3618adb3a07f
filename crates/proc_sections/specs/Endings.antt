-- What the end of a transaction needs, and leaves.
use Rattle.std.specs.Prelude.{◌≡◌, ℕ, Bool, false, true, List, [], ◌∷◌, Contains, None}
use Rattle.tx_events.specs.declared.xact_end.XactEnd.{XactEnd}
use Rattle.tx_events.specs.declared.xact_end.XactEnd.TheVariants as ends
use Rattle.tx_events.specs.XactEnds.{end_event}
use Rattle.tx_core.specs.declared.entry.Entry.{Entry}
use Rattle.tx_core.specs.declared.entry.Start.{Start}
use Rattle.tx_core.specs.declared.entry.State.{State}
use Rattle.tx_core.specs.declared.entry.State.TheVariants as states
use Rattle.tx_core.specs.Entries.{IsMarked}
use Rattle.engine_parts.specs.declared.session.Session.{Session}
use Rattle.engine_parts.specs.declared.session.Stage.TheVariants as stages
use Rattle.engine_parts.specs.Sessions.{by_at}
use Rattle.engine_parts.specs.Stages.{may_be_recorded}
use Rattle.engine_parts.specs.Steps.{WentOn}

-- the state of all ids of a transaction that ends so
abbrev pub end_state : XactEnd → State
end_state ends.Commit = states.Committed
end_state ends.Abort = states.Aborted

-- whether it has a commit record
abbrev pub has_record : XactEnd → Bool
has_record ends.Commit = true
has_record ends.Abort = false

-- all open ids have the end's state, and the commit record stands by the session's stage, or none does
pub record MayEnd (start : Start) (lists : List (List Entry)) (s : Session) (how : XactEnd) : Type 0 where
  pub recorded : may_be_recorded s.stage ≡ has_record how
  pub marked : (id : ℕ) → Contains s.levels.open_ids.items id → IsMarked start lists id (end_state how)

-- the end of the transaction is the session's only new event, and it has no level, no open id and no pending end
pub record HasEnded (n : ℕ) (how : XactEnd) (s s' : Session) (lists more : List (List Entry)) : Type 0 where
  pub went : (top : ℕ) (subs : List ℕ) → s.levels.open_ids.items ≡ top ∷ subs
      → WentOn n (end_event how (by_at n s.levels.commands) top ∷ []) lists more
  pub named : s'.levels.level_ids.items ≡ []
  pub unnamed : s'.levels.unnamed ≡ 0
  pub opened : s'.levels.open_ids.items ≡ []
  pub registered : s'.levels.registered ≡ s.levels.registered
  pub count : s'.levels.commands ≡ s.levels.commands
  pub stage : s'.stage ≡ stages.Clear
  pub unlinked : s'.unlinked ≡ None
  pub making : s'.making ≡ s.making
