-- What the end of a transaction adds to the history and to the log.
use Rattle.std.specs.Prelude.{ℕ, List}
use Rattle.tx_events.specs.declared.event.By.{By}
use Rattle.tx_events.specs.declared.event.Event.{Event}
use Rattle.tx_events.specs.declared.event.Event.TheVariants as events
use Rattle.tx_events.specs.declared.record.Rec.{Rec}
use Rattle.tx_events.specs.declared.record.Rec.TheVariants as records
use Rattle.tx_events.specs.declared.xact_end.XactEnd.{XactEnd}
use Rattle.tx_events.specs.declared.xact_end.XactEnd.TheVariants as ends

abbrev pub end_event : XactEnd → By → ℕ → Event
end_event ends.Commit by top = events.Commit by top
end_event ends.Abort by top = events.Abort by top

abbrev pub end_record : XactEnd → ℕ → List ℕ → Rec
end_record ends.Commit top subs = records.Commit top subs
end_record ends.Abort top subs = records.Abort top subs
