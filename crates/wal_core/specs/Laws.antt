-- What may be appended to a log that was started, and what a batch more leaves as it was.
use Rattle.std.specs.Prelude.{◌≡◌, ℕ, ◌<◌, ◌^◌, List, length, Some}
use Rattle.tx_events.specs.declared.record.Rec.{Rec}
use Rattle.tx_events.specs.declared.record.Rec.TheVariants as records
use Rattle.tx_events.specs.RecordSize.{record_size}
use Rattle.tx_events.specs.declared.record.Counters.{Counters}
use Rattle.tx_events.specs.Base.{IsBase}
use Rattle.wal_records.specs.Spelling.{rec_bytes, AreCounters}
use Rattle.wal_core.specs.Opening.{History, with_body}
use Rattle.wal_core.specs.Log.{MayAppend}

-- A checkpoint of a log's own counters may come next, where they are a base.
abbrev pub CheckpointMayCome : Type 0
CheckpointMayCome = (number : ℕ) (counters : Counters) → number < 2 ^ 64 → AreCounters counters → IsBase counters → MayAppend (Some counters) number (records.Checkpoint number counters)

-- with a batch more a history begins where it did
abbrev pub FirstStays : Type 0
FirstStays = (gate : ℕ) (h x : History) (body : List ℕ) → with_body gate (Some h) body ≡ Some x → x.first ≡ h.first

-- a record's size is how many bytes spell it
abbrev pub SizesMatch : Type 0
SizesMatch = (r : Rec) → record_size r ≡ length (rec_bytes r)
