-- What the replies of a life's lines tell of snapshots.
use Rattle.std.specs.Prelude.{Option, Some, None, slice_get}
use Rattle.tx_events.specs.declared.event.By.{By}
use Rattle.tx_events.specs.declared.snapshot.SnapData.{SnapData}
use Rattle.tx_model.specs.declared.reply.Reply.{Reply}
use Rattle.tx_model.specs.declared.reply.Reply.TheVariants as replies
use Rattle.tx_model.specs.declared.report.Line.{Line}
use Rattle.place_columns.specs.Lined.{lines_from, number_of}
use Rattle.report_law.specs.Steps.{Judged, lines_of}

-- what the reply to a command tells of a snapshot
abbrev pub told_lists : Reply → Option SnapData
told_lists (replies.Snapped lists) = Some lists
told_lists reply = None

-- and that of a line
abbrev pub told_in : Option Line → Option SnapData
told_in (Some l) = told_lists l.reply
told_in None = None

abbrev pub told_by : Judged → By → Option SnapData
told_by j by = told_in (slice_get (lines_of j) (number_of (lines_from 0 j.steps) by))
