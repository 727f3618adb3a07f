-- What asking for the status of an id leaves.
use Rattle.std.specs.Prelude.{◌≡◌, ℕ, List, [], ◌∷◌, ◌++◌, Result, Ok, Err}
use Rattle.tx_events.specs.declared.event.Event.{Event}
use Rattle.tx_events.specs.declared.event.Event.TheVariants as events
use Rattle.tx_events.specs.declared.sequence.Memory.{Memory}
use Rattle.tx_events.specs.History.{next_given}
use Rattle.tx_events.specs.Horizon.{oldest_id}
use Rattle.tx_events.specs.IdLists.{has}
use Rattle.tx_events.specs.Running.{running}
use Rattle.proc_table.specs.declared.answers.Asked.{Asked}
use Rattle.tx_core.specs.declared.entry.Entry.{Entry}
use Rattle.tx_core.specs.declared.entry.Kind.TheVariants as kinds
use Rattle.tx_core.specs.declared.entry.Start.{Start}
use Rattle.tx_core.specs.Entries.{history}
use Rattle.engine_parts.specs.declared.session.Session.{Session}
use Rattle.engine_parts.specs.Holds.{Knowledge, ProcSection}
use Rattle.engine_parts.specs.Sessions.{by_at, look_by}
use Rattle.engine_parts.specs.Steps.{WentOn}

-- the question of the session's command
abbrev pub question : ℕ → Session → ℕ → Event
question n s x = events.Ask (by_at n s.levels.commands) x

-- the question stands at the end of the history, and the answer is how the id stood there
pub record IsAnswered (start : Start) (event : Event) (x : ℕ) (asked : Asked) (lists : List (List Entry)) : Type 0 where
  pub front : List Event
  pub split : history lists ≡ front ++ event ∷ []
  pub running : asked.running ≡ has (running front) x
  pub next : asked.next ≡ next_given start.base.next front
  pub oldest : asked.oldest ≡ oldest_id start.base.oldest front

-- After want of memory nothing was asked.
abbrev pub AsksStatus : Start → ℕ → Session → ℕ → List (List Entry) → List (List Entry) → Result Asked Memory → Type 0
AsksStatus start n s x lists more (Ok asked) =
    WentOn n (question n s x ∷ []) lists more × IsAnswered start (question n s x) x asked more
AsksStatus start n s x lists more (Err none) = WentOn n [] lists more

-- the critical section: its entry is the question, or a look
abbrev pub AskSection : Start → ℕ → Session → ℕ → Knowledge → Knowledge → Result Asked Memory → Type 0
AskSection start n s x v w (Ok asked) =
    ProcSection start (record { by = by_at n s.levels.commands; kind = kinds.Event (question n s x) }) v w
AskSection start n s x v w (Err none) = ProcSection start (look_by n s) v w
