-- The history is legal, and each event is its entry's.
use Rattle.std.specs.Prelude.{IfSome, List, ℕ, ◌≡◌}
use Rattle.tx_events.specs.Events.{by_of}
use Rattle.tx_events.specs.History.{IsLegal, MayCome}
use Rattle.tx_core.specs.declared.entry.Entry.{Entry}
use Rattle.tx_core.specs.declared.entry.Start.{Start}
use Rattle.tx_core.specs.Entries.{event_of, history}
use Rattle.tx_core.specs.Lists.{Upheld}
use Rattle.tx_core.specs.Locks.{proc_lock}

-- an event names the command of its entry
abbrev pub NeedsOwn : List (List Entry) → ℕ → List Entry → Entry → Type 0
NeedsOwn lists lock before e = IfSome (event_of e) (λ event. by_of event ≡ e.by)

-- The ProcArray's list holds one legal history, and no session writes another's events.
pub record EventsLegal (start : Start) (lists : List (List Entry)) : Type 0 where
  pub legal : IsLegal start.base (history lists)
  pub own : Upheld NeedsOwn lists

-- what a session knows that adds the entry: the event may come now
pub record MayBeLegal (start : Start) (seen : List (List Entry)) (lock : ℕ) (before : List Entry) (e : Entry) : Type 0 where
  pub own : NeedsOwn seen lock before e
  pub rule : lock ≡ proc_lock → IfSome (event_of e) (λ event. MayCome start.base (history seen) event)
