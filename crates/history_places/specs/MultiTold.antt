-- What is told of the places of a history of multixacts, in a life of this base.
use Rattle.std.specs.Prelude.{◌≡◌, ℕ, List, [], ◌∷◌, ◌++◌}
use Rattle.tx_events.specs.declared.multi.MultiEvent.{MultiEvent}
use Rattle.tx_events.specs.declared.record.Counters.{Counters}
use Rattle.tx_events.specs.Limits.{member_stop, multi_stop_limit}
use Rattle.tx_events.specs.Multis.{AreLegalMultis, first_member, free_offset, next_made, oldest_multi, oldest_offset}
use Rattle.place_columns.specs.Columns.{IsColumn}
use Rattle.history_places.specs.declared.start.Start.{Start}
use Rattle.history_places.specs.declared.multis.Row.{Row}
use Rattle.history_places.specs.Starts.{BeginsAs, FitsBase}

-- what a caller sees: the life's base, where multixacts of the base begin, and the events so far
pub record MultiReplayed : Type 0 where
  pub base : Counters
  pub starts : List Start
  pub events : List MultiEvent

abbrev pub with_event : MultiReplayed → MultiEvent → MultiReplayed
with_event r e = record r { events = r.events ++ e ∷ [] }

abbrev pub next_in : Counters → List MultiEvent → ℕ
next_in base h = next_made base.multi h

abbrev pub first_in : Counters → List MultiEvent → ℕ
first_in base h = first_member (free_offset base.offset h)

abbrev pub oldest_in : Counters → List MultiEvent → ℕ
oldest_in base h = oldest_multi base.oldest_multi h

abbrev pub stop_in : Counters → List MultiEvent → ℕ
stop_in base h = multi_stop_limit (oldest_multi base.oldest_multi h)

abbrev pub member_stop_in : Counters → List MultiEvent → ℕ
member_stop_in base h = member_stop (oldest_offset base.oldest_offset h)

-- the row tells what is so behind the history
pub record IsRow (base : Counters) (h : List MultiEvent) (row : Row) : Type 0 where
  pub next : row.next ≡ next_in base h
  pub first : row.first ≡ first_in base h
  pub oldest : row.oldest ≡ oldest_in base h
  pub stop : row.stop ≡ stop_in base h
  pub member_stop : row.member_stop ≡ member_stop_in base h

-- what is kept beside the replay is so of its history
pub record AreMultiPlaces (base : Counters) (starts : List Start) (h : List MultiEvent) (nexts firsts oldests stops member_stops : List ℕ) : Type 0 where
  pub fits : FitsBase base starts
  pub legal : AreLegalMultis base (BeginsAs starts) h
  pub next : IsColumn (next_in base) h nexts
  pub first : IsColumn (first_in base) h firsts
  pub oldest : IsColumn (oldest_in base) h oldests
  pub stop : IsColumn (stop_in base) h stops
  pub member_stop : IsColumn (member_stop_in base) h member_stops
