-- What a replay of a history holds, and the first event that may not come.
use Rattle.std.specs.Prelude.{◌≡◌, ℕ, ◌+◌, ◌<◌, ◌≤◌, ◌↔◌, ◌==◌, ◌||◌, Bool, List, [], ◌∷◌, ◌++◌, length, take, slice_index}
use Rattle.tx_events.specs.declared.event.Event.{Event}
use Rattle.tx_events.specs.declared.record.Counters.{Counters}
use Rattle.tx_events.specs.Events.{by_of}
use Rattle.tx_events.specs.History.{IsLegal, MayCome}
use Rattle.tx_events.specs.IdLists.{has}
use Rattle.proc_table.specs.Table.{InTurn, Table}
use Rattle.history_check.specs.declared.given.GivenId.{GivenId}
use Rattle.history_check.specs.declared.opened.Opened.{Opened}
use Rattle.history_check.specs.GivenIds.{AreKept}
use Rattle.history_check.specs.Opened.{AreAllOpened}

-- what a caller sees: the life's base, how many sessions there are, and the events so far
pub record Replayed : Type 0 where
  pub base : Counters
  pub sessions : ℕ
  pub events : List Event

-- the event may come next
abbrev pub IsLawfulNext : Replayed → Event → Type 0
IsLawfulNext r e = MayCome r.base r.events e × InTurn (by_of e) r.events

abbrev pub with_event : Replayed → Event → Replayed
with_event r e = record r { events = r.events ++ e ∷ [] }

-- the id counts as committed from the start on
abbrev pub is_known : List ℕ → ℕ → Bool
is_known committed x = (x == 1) || (x == 2) || has committed x

-- the history is legal up to this event, and not with it
pub record IsFirstIllegal (base : Counters) (h : List Event) (p : ℕ) : Type 0 where
  pub within : p < length h
  pub before : IsLegal base (take p h)
  pub not_then : IsLegal base (take (p + 1) h) → ⊥

-- the number of each session's last event, 0 where it has none
pub record AreTurns (sessions : ℕ) (h : List Event) (last : List ℕ) : Type 0 where
  pub size : length last ≡ sessions
  pub each : (session command : ℕ) → session < sessions → (slice_index last session ≤ command) ↔ InTurn (record { session = session; command = command }) h

-- what is kept beside the table is so of its events
pub record IsReplay (t : Table) (last : List ℕ) (all : List Opened) (items : List GivenId) : Type 0 where
  pub turns : AreTurns t.sessions t.events last
  pub opened : AreAllOpened t.events t.sessions all
  pub given : AreKept t.events items

-- the event is added to the table
pub record GoesOn (old new : Table) (e : Event) : Type 0 where
  pub events : new.events ≡ old.events ++ e ∷ []
  pub base : new.base ≡ old.base
  pub sessions : new.sessions ≡ old.sessions

-- the table has the same events
pub record Stays (old new : Table) : Type 0 where
  pub events : new.events ≡ old.events
  pub base : new.base ≡ old.base
  pub sessions : new.sessions ≡ old.sessions
