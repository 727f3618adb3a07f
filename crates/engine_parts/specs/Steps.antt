-- What a step of a call leaves, of which a call makes several.
use Rattle.std.specs.Prelude.{◌≡◌, ℕ, List, ◌++◌}
use Rattle.std.specs.List.{filter}
use Rattle.notes.specs.Lists.{Grows}
use Rattle.tx_events.specs.declared.event.Event.{Event}
use Rattle.tx_events.specs.declared.multi.MultiEvent.{MultiEvent}
use Rattle.tx_events.specs.Events.{is_of}
use Rattle.tx_core.specs.declared.entry.Entry.{Entry}
use Rattle.tx_core.specs.Entries.{history}
use Rattle.tx_core.specs.OwnMultis.{own_multis}
use Rattle.engine_parts.specs.Stages.{AsksNothing}

-- the lists went on, and the session's events are those before and then these. It had none of multixacts
pub record GoesOn (n : ℕ) (added : List Event) (lists more : List (List Entry)) : Type 0 where
  pub grows : Grows lists more
  pub own : filter (is_of n) (history more) ≡ filter (is_of n) (history lists) ++ added
  pub multis : own_multis n more ≡ own_multis n lists

-- and it asked for no state meanwhile
pub record WentOn (n : ℕ) (added : List Event) (lists more : List (List Entry)) : Type 0 where
  pub on : GoesOn n added lists more
  pub asks : AsksNothing n lists more

-- The lists went on, and the session's events of multixacts are those before and then these. It had no other event, and
-- asked for no state.
pub record WentMulti (n : ℕ) (added : List MultiEvent) (lists more : List (List Entry)) : Type 0 where
  pub grows : Grows lists more
  pub own : filter (is_of n) (history more) ≡ filter (is_of n) (history lists)
  pub multis : own_multis n more ≡ own_multis n lists ++ added
  pub asks : AsksNothing n lists more
