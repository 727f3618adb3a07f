-- What is given next at the places of a life's histories.
use Rattle.std.specs.Prelude.{List}
use Rattle.tx_events.specs.declared.event.Event.{Event}
use Rattle.tx_events.specs.declared.multi.MultiEvent.{MultiEvent}
use Rattle.tx_events.specs.declared.record.Counters.{Counters}
use Rattle.tx_events.specs.History.{next_given}
use Rattle.tx_events.specs.Multis.{next_made}
use Rattle.place_columns.specs.Columns.{IsColumn}
use Rattle.place_columns.specs.declared.counts.GivenCounts.{GivenCounts}

-- the columns are those of these histories, in a life of this base
pub record AreCounts (base : Counters) (h : List Event) (all : List MultiEvent) (counts : GivenCounts) : Type 0 where
  pub given : IsColumn (next_given base.next) h counts.given.items
  pub made : IsColumn (next_made base.multi) all counts.made.items
