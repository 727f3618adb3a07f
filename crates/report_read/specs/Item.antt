-- A report's lines, by what they say. Lives and records are told with their numbers.
use Rattle.std.specs.Prelude.{ℕ}
use Rattle.tx_events.specs.declared.event.Event.{Event}
use Rattle.tx_events.specs.declared.multi.MultiEvent.{MultiEvent}
use Rattle.tx_events.specs.declared.record.Rec.{Rec}
use Rattle.tx_model.specs.declared.report.How.{How}
use Rattle.tx_model.specs.declared.report.Line.{Line}
use Rattle.tx_model.specs.declared.report.Step.{Step}
use Rattle.report_lines.specs.declared.life.Start.{Start}
use Rattle.report_lines.specs.declared.life.LogHead.{LogHead}

pub data Item : Type 0 where
  title : Item
  life : ℕ → Start → Item
  round : ℕ → Item
  command : Line → Item
  step : Step → Item
  history : Item
  event : Event → Item
  multis : Item
  multi : MultiEvent → Item
  log : LogHead → Item
  logged : ℕ → Rec → Item
  crash : How → Item
  last : Item
