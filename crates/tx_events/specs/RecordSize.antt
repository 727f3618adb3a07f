-- How many bytes the log's records take.
use Rattle.std.specs.Prelude.{ℕ, ◌+◌, ◌*◌, List, length}
use Rattle.std.specs.List.{sum_by}
use Rattle.tx_events.specs.declared.record.Rec.{Rec}
use Rattle.tx_events.specs.declared.record.Rec.TheVariants as records

-- a tag byte and the record's fields
abbrev pub record_size : Rec → ℕ
record_size (records.Commit top subs) = 13 + 8 * length subs
record_size (records.Abort top subs) = 13 + 8 * length subs
record_size (records.Multi multi offset members) = 21 + 9 * length members
record_size (records.Checkpoint number counters) = 57
record_size (records.Truncate oldest multi offset) = 25

abbrev pub records_size : List Rec → ℕ
records_size recs = sum_by record_size recs
