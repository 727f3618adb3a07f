-- Worked reports of one life: an empty one, and some with one wrong line.
use Rattle.std.specs.Prelude.{ℕ, List, [], ◌∷◌, None}
use Rattle.tx_events.specs.declared.event.By.{By}
use Rattle.tx_events.specs.declared.event.Event.{Event}
use Rattle.tx_events.specs.declared.event.Event.TheVariants as events
use Rattle.tx_events.specs.declared.record.Rec.{Rec}
use Rattle.tx_events.specs.declared.record.Rec.TheVariants as records
use Rattle.tx_events.specs.Base.{first_base}
use Rattle.tx_model.specs.declared.command.Command.TheVariants as commands
use Rattle.tx_model.specs.declared.reply.Reply.TheVariants as replies
use Rattle.tx_model.specs.declared.report.Report.{Report}
use Rattle.tx_model.specs.declared.report.Step.{Step}
use Rattle.tx_model.specs.declared.report.Step.TheVariants as steps
use Rattle.report_law.specs.ReportLines.{IsLawfulReport, IsUnlawful}

abbrev pub by_at : ℕ → ℕ → By
by_at session number = record { session = session; command = number }

-- a report of one life, whose log wasn't forgotten
abbrev pub report_of : ℕ → ℕ → List Step → List Event → List Rec → Report
report_of from flushed steps events recs = record {
  names = (97 ∷ []) ∷ [];
  lives = record {
    life = record { from = from; base = first_base; committed = []; recorded = []; events = events; multis = []; recs = recs; flushed = flushed; end = 62 };
    steps = steps;
    crash = None;
  } ∷ [];
}

abbrev pub first_record : List Rec
first_record = records.Checkpoint 0 first_base ∷ []

-- a life in which nothing was asked: lines 1 to 7 are `txid`, `life`, `history`, `multis`, `log`, the checkpoint, `end`
abbrev pub empty_report : Report
empty_report = report_of 0 1 [] [] first_record

-- its log wasn't new
abbrev pub late_report : Report
late_report = report_of 1 2 [] [] first_record

-- its first checkpoint isn't flushed
abbrev pub unflushed_report : Report
unflushed_report = report_of 0 0 [] [] first_record

-- its first record is no checkpoint
abbrev pub headless_report : Report
headless_report = report_of 0 1 [] [] (records.Truncate 3 1 1 ∷ [])

-- an event of no command
abbrev pub unasked_report : Report
unasked_report = report_of 0 1 [] (events.Ask (by_at 0 1) 3 ∷ []) first_record

-- a command without a transaction that was answered `ok`
abbrev pub loose_report : Report
loose_report = report_of 0 1 (steps.Round 1 (record { by = by_at 0 1; command = commands.Save; reply = replies.Done } ∷ []) ∷ []) [] first_record

-- the first is lawful, and which line of each other is the unlawful one
pub record WorkedReports : Type 0 where
  pub empty : IsLawfulReport empty_report
  pub late : IsUnlawful late_report 2
  pub unflushed : IsUnlawful unflushed_report 5
  pub headless : IsUnlawful headless_report 6
  pub unasked : IsUnlawful unasked_report 4
  pub loose : IsUnlawful loose_report 4
