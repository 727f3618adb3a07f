-- What was read of a log so far, as a history.
use Rattle.std.specs.Prelude.{◌≡◌, ℕ, nat_lt, cond, List, [], ◌∷◌, Option, Some, None, Result, Ok, Err}
use Rattle.tx_events.specs.declared.record.Rec.{Rec}
use Rattle.tx_events.specs.declared.record.Counters.{Counters}
use Rattle.wal_records.specs.declared.stop.Stop.{Stop}
use Rattle.wal_core.specs.declared.batch_records.SoFar.{SoFar}
use Rattle.wal_records.specs.Reading.{◌>>=◌, Stops}
use Rattle.wal_core.specs.Opening.{History, first_number, began, joined, recs_in}

abbrev pub history_read : SoFar → History
history_read p = record { first = p.first; recs = p.recs; counters = p.counters }

abbrev pub history_so_far : Option SoFar → Option History
history_so_far None = None
history_so_far (Some p) = Some (history_read p)

abbrev pub recs_so_far : Option History → List Rec
recs_so_far None = []
recs_so_far (Some h) = h.recs

abbrev pub counters_so_far : Option History → Option Counters
counters_so_far None = None
counters_so_far (Some h) = Some h.counters

-- so many bytes as records, joined to a history
abbrev pub joins : ℕ → List ℕ → History → Option History
joins n bytes h = recs_in n bytes >>= joined h

-- a history that begins with this record, behind this gate
abbrev pub begun : ℕ → Rec → Option History
begun at r = first_number (r ∷ []) >>= λ number. cond (nat_lt at number) None (joined (began number) (r ∷ []))

-- what a function returned is this history, unless memory ran out
abbrev pub GivesHistory : Result SoFar Stop → Option History → Type 0
GivesHistory (Ok p) read = read ≡ Some (history_read p)
GivesHistory (Err e) read = Stops e read
