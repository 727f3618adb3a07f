-- Which records carry their own number.
use Rattle.std.specs.Prelude.{ℕ, Option, Some, None}
use Rattle.tx_events.specs.declared.record.Rec.{Rec}
use Rattle.tx_events.specs.declared.record.Rec.TheVariants as records

-- a checkpoint does
abbrev pub own_number : Rec → Option ℕ
own_number (records.Checkpoint number counters) = Some number
own_number (records.Commit top subs) = None
own_number (records.Abort top subs) = None
own_number (records.Multi multi offset members) = None
own_number (records.Truncate oldest multi offset) = None
