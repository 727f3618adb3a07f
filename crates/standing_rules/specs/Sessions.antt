-- How the sessions of a life stand behind some of its lines.
use Rattle.std.specs.Prelude.{◌≡◌, ℕ, ◌<◌, Bool, nat_lt, List, [], ◌∷◌, ◌++◌, None, length}
use Rattle.std.specs.List.{HoldsAt}
use Rattle.tx_events.specs.declared.event.Event.{Event}
use Rattle.tx_events.specs.declared.multi.MultiEvent.{MultiEvent}
use Rattle.tx_events.specs.declared.record.Rec.{Rec}
use Rattle.tx_events.specs.Events.{events_of, given}
use Rattle.tx_model.specs.declared.report.Line.{Line}
use Rattle.tx_model.specs.Lines.{stance}
use Rattle.tx_model.specs.Stance.{nothing_yet}
use Rattle.life_law.specs.Pending.{pending}
use Rattle.report_law.specs.Places.{multis_of}
use Rattle.report_law.specs.Standing.{unfinished}
use Rattle.standing_rules.specs.Told.{told_of}
use Rattle.standing_rules.specs.declared.pending.Unfinished.TheVariants as left
use Rattle.standing_rules.specs.declared.sessions.Session.{Session}

-- a life's log, its histories, and lines of it
pub record Lived : Type 0 where
  pub recs : List Rec
  pub events : List Event
  pub multis : List MultiEvent
  pub lines : List Line

pub record IsBehind (v : Lived) (session : ℕ) (s : Session) : Type 0 where
  pub stands : s.standing ≡ stance v.events v.lines session
  pub held : s.pending ≡ pending v.recs v.events v.lines session
  pub left : told_of s.unfinished ≡ unfinished v.multis v.lines session

-- so stands each of so many sessions
pub record AreBehind (v : Lived) (count : ℕ) (all : List Session) : Type 0 where
  pub size : length all ≡ count
  pub each : (session : ℕ) → session < count → HoldsAt (IsBehind v session) all session

-- the same behind one line more
abbrev pub with_line : Lived → Line → Lived
with_line v l = record v { lines = v.lines ++ l ∷ [] }

-- what a line's command gave: these ids, and a multixact or none
pub record IsAdded (v : Lived) (l : Line) (ids : List ℕ) (gave : Bool) : Type 0 where
  pub given_ids : ids ≡ given (events_of l.by v.events)
  pub gave_one : gave ≡ nat_lt 0 (length (multis_of l.by v.multis))

-- before any line
pub record IsFresh (s : Session) : Type 0 where
  pub stands : s.standing ≡ nothing_yet
  pub held : s.pending ≡ None
  pub left : s.unfinished ≡ left.Nothing
