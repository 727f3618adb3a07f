-- What was read of a log volume, as a history.
use Rattle.std.specs.Prelude.{◌≡◌, ℕ, List, [], Option, Some, None}
use Rattle.tx_events.specs.declared.record.Counters.{Counters}
use Rattle.tx_events.specs.declared.record.Rec.{Rec}
use Rattle.wal_core.specs.declared.log_contents.LogContents.{LogContents}
use Rattle.tx_events.specs.After.{after_records}
use Rattle.tx_events.specs.Base.{IsBase}
use Rattle.wal_core.specs.Opening.{History, first_number, no_counters}

abbrev pub history_with : ℕ → List Rec → Option Counters → Option History
history_with first recs None = None
history_with first recs (Some counters) = Some (record { first = first; recs = recs; counters = counters })

abbrev pub history_of : LogContents → Option History
history_of found = history_with found.first found.recs found.counters

-- The first record is a checkpoint with the number `first`, and the counters after all records are a base. Or there is no
-- record.
abbrev pub ComesTo : ℕ → List Rec → Option Counters → Type 0
ComesTo first recs None = (recs ≡ []) × (first ≡ 0)
ComesTo first recs (Some counters) = (first_number recs ≡ Some first) × ((counters ≡ after_records no_counters recs) × IsBase counters)
