-- What is told of the places of a history, in a life of this base.
use Rattle.std.specs.Prelude.{ℕ, List}
use Rattle.tx_events.specs.declared.event.Event.{Event}
use Rattle.tx_events.specs.declared.record.Counters.{Counters}
use Rattle.tx_events.specs.History.{next_given}
use Rattle.tx_events.specs.Horizon.{oldest_id, oldest_xmin}
use Rattle.tx_events.specs.Limits.{stop_limit}
use Rattle.history_check.specs.Replays.{Replayed}
use Rattle.place_columns.specs.Columns.{IsColumn}

abbrev pub next_in : Counters → List Event → ℕ
next_in base h = next_given base.next h

abbrev pub oldest_in : Counters → List Event → ℕ
oldest_in base h = oldest_id base.oldest h

abbrev pub stop_in : Counters → List Event → ℕ
stop_in base h = stop_limit (oldest_id base.oldest h)

abbrev pub xmin_in : Counters → List Event → ℕ
xmin_in base h = oldest_xmin base.next h

-- what is kept beside a replay is so of its history
pub record ArePlaces (r : Replayed) (nexts oldests stops xmins : List ℕ) : Type 0 where
  pub next : IsColumn (next_in r.base) r.events nexts
  pub oldest : IsColumn (oldest_in r.base) r.events oldests
  pub stop : IsColumn (stop_in r.base) r.events stops
  pub xmin : IsColumn (xmin_in r.base) r.events xmins
