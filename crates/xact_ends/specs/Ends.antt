-- What the end of a transaction leaves.
use Rattle.std.specs.Prelude.{◌≡◌, ℕ, List, [], ◌∷◌, Result, Ok, Err}
use Rattle.tx_events.specs.declared.refusal.Refusal.{Refusal}
use Rattle.tx_events.specs.declared.xact_end.XactEnd.{XactEnd}
use Rattle.tx_events.specs.declared.xact_end.XactEnd.TheVariants as ends
use Rattle.tx_events.specs.XactEnds.{end_event}
use Rattle.disk_core.specs.declared.log_disk.LogDisk as logs
use Rattle.disk_core.specs.declared.page_disk.PageDisk as disks
use Rattle.tx_core.specs.declared.entry.Entry.{Entry}
use Rattle.tx_core.specs.declared.entry.Start.{Start}
use Rattle.engine_parts.specs.declared.session.Caller.{Caller}
use Rattle.engine_parts.specs.declared.session.Session.{Session}
use Rattle.engine_parts.specs.declared.session.Stage.TheVariants as stages
use Rattle.engine_parts.specs.Sessions.{by_at}
use Rattle.engine_parts.specs.Steps.{GoesOn}
use Rattle.xact_ends.specs.Stops.{Stops}

-- the end of the transaction is the session's only new event, and it has no level, no open id and no pending end
pub record HasFinished (n : ℕ) (how : XactEnd) (s s' : Session) (lists more : List (List Entry)) : Type 0 where
  pub goes : (top : ℕ) (subs : List ℕ) → s.levels.open_ids.items ≡ top ∷ subs
      → GoesOn n (end_event how (by_at n s.levels.commands) top ∷ []) lists more
  pub named : s'.levels.level_ids.items ≡ []
  pub unnamed : s'.levels.unnamed ≡ 0
  pub opened : s'.levels.open_ids.items ≡ []
  pub registered : s'.levels.registered ≡ s.levels.registered
  pub count : s'.levels.commands ≡ s.levels.commands
  pub stage : s'.stage ≡ stages.Clear
  pub making : s'.making ≡ s.making

-- the commit is over, or it stopped, and the session has its levels and ids as before
abbrev pub Commits : Start → ℕ → Session → Session → List (List Entry) → List (List Entry) → Result (Unit {0}) Refusal
    → Type 0
Commits start n s s' lists more (Ok _) = HasFinished n ends.Commit s s' lists more
Commits start n s s' lists more (Err r) =
    GoesOn n [] lists more × (s'.levels ≡ s.levels) × Stops start more (by_at n s.levels.commands) s.stage s'.stage r
    × (s'.making ≡ s.making)

module _ {L P : Type 0} {l : logs.Ghosts L} {p : disks.Ghosts P} where
  -- a transaction without an id is closed
  pub record IsClosed (old new : Caller L P l p) : Type 0 where
    pub pass : new.pass ≡ old.pass
    pub number : new.number ≡ old.number
    pub levels : new.session.levels ≡ record old.session.levels { unnamed = 0 }
    pub stage : new.session.stage ≡ stages.Clear
    pub unlinked : new.session.unlinked ≡ old.session.unlinked
    pub making : new.session.making ≡ old.session.making
