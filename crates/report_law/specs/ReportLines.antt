-- The lines of a report, in the order of its text, each with what it is judged by; and which line is unlawful.
use Rattle.std.specs.Prelude.{◌≡◌, ℕ, ◌+◌, List, [], ◌∷◌, ◌++◌, Option, length}
use Rattle.std.specs.List.{AllByRecursion, flat_map}
use Rattle.tx_events.specs.declared.event.Event.{Event}
use Rattle.tx_events.specs.declared.multi.MultiEvent.{MultiEvent}
use Rattle.tx_events.specs.declared.record.Rec.{Rec}
use Rattle.tx_model.specs.declared.reply.Reply.{Reply}
use Rattle.tx_model.specs.declared.report.DumpOf.{DumpOf}
use Rattle.tx_model.specs.declared.report.How.{How}
use Rattle.tx_model.specs.declared.report.Life.{Life}
use Rattle.tx_model.specs.declared.report.LifeReport.{LifeReport}
use Rattle.tx_model.specs.declared.report.Line.{Line}
use Rattle.tx_model.specs.declared.report.Report.{Report}
use Rattle.tx_model.specs.declared.report.Step.{Step}
use Rattle.tx_model.specs.declared.report.Step.TheVariants as steps
use Rattle.tx_model.specs.Rounds.{lines_in}
use Rattle.report_law.specs.Begun.{IsLawfulStart, begun_from}
use Rattle.report_law.specs.Checkpoints.{MayCheckpoint}
use Rattle.report_law.specs.Dumps.{MayDump}
use Rattle.report_law.specs.Events.{IsLawfulEvent, IsLawfulMulti}
use Rattle.report_law.specs.Records.{IsLawfulLog, IsLawfulRecord}
use Rattle.report_law.specs.Steps.{IsLawfulCommand, Judged}

-- a line of a report: one that the grammar alone judges, or one with a rule, and where it stands
pub data ReportLine : Type 0 where
  plain : ReportLine
  start : List LifeReport → Life → ReportLine
  command : Judged → List Line → List Line → List Line → Line → ReportLine
  checkpoint : Judged → List Step → Reply → ReportLine
  dump : Judged → List Step → DumpOf → ℕ → ℕ → Reply → ReportLine
  event : Judged → ℕ → Event → ReportLine
  multi : Judged → ℕ → MultiEvent → ReportLine
  log : Option How → Judged → ReportLine
  logged : Judged → ℕ → Rec → ReportLine

-- the line's rule
abbrev pub IsLawfulAt : ReportLine → Type 0
IsLawfulAt plain = Unit {0}
IsLawfulAt (start before life) = IsLawfulStart before life
IsLawfulAt (command j rounds lines earlier l) = IsLawfulCommand j rounds lines earlier l
IsLawfulAt (checkpoint j before reply) = MayCheckpoint j before reply
IsLawfulAt (dump j before what at size reply) = MayDump j (flat_map lines_in before) what at size reply
IsLawfulAt (event j place e) = IsLawfulEvent j place e
IsLawfulAt (multi j place e) = IsLawfulMulti j place e
IsLawfulAt (log crash j) = IsLawfulLog crash j.life
IsLawfulAt (logged j place rec) = IsLawfulRecord j place rec

-- ---- in order

-- the lines of a round behind these
abbrev pub command_lines : Judged → List Line → List Line → List Line → List Line → List ReportLine
command_lines j rounds lines earlier [] = []
command_lines j rounds lines earlier (l ∷ rest) = command j rounds lines earlier l ∷ command_lines j rounds lines (earlier ++ l ∷ []) rest

abbrev pub step_lines : Judged → List Step → Step → List ReportLine
step_lines j before (steps.Round number lines) = plain ∷ command_lines j (flat_map lines_in before) lines [] lines
step_lines j before (steps.Checkpoint reply) = checkpoint j before reply ∷ []
step_lines j before (steps.Dump what at size reply) = dump j before what at size reply ∷ []

abbrev pub steps_lines : Judged → List Step → List Step → List ReportLine
steps_lines j before [] = []
steps_lines j before (s ∷ rest) = step_lines j before s ++ steps_lines j (before ++ s ∷ []) rest

-- items at their places, from this one on
abbrev pub placed : {X : Type 0} → (ℕ → X → ReportLine) → ℕ → List X → List ReportLine
placed line n [] = []
placed line n (x ∷ xs) = line n x ∷ placed line (n + 1) xs

abbrev pub judged : List LifeReport → LifeReport → Judged
judged before r = record { begun = begun_from before r.life; life = r.life; steps = r.steps }

-- a life's lines, from its first one to the crash or the end
abbrev pub life_lines : List LifeReport → LifeReport → List ReportLine
life_lines before r =
    start before r.life ∷ steps_lines (judged before r) [] r.steps
    ++ (plain ∷ placed (event (judged before r)) 0 r.life.events)
    ++ (plain ∷ placed (multi (judged before r)) 0 r.life.multis)
    ++ (log r.crash (judged before r) ∷ placed (logged (judged before r)) 0 r.life.recs)
    ++ (plain ∷ [])

abbrev pub lives_lines : List LifeReport → List LifeReport → List ReportLine
lives_lines before [] = []
lives_lines before (r ∷ rest) = life_lines before r ++ lives_lines (before ++ r ∷ []) rest

abbrev pub report_lines : Report → List ReportLine
report_lines r = plain ∷ lives_lines [] r.lives

-- every line meets its rule
abbrev pub IsLawfulReport : Report → Type 0
IsLawfulReport r = AllByRecursion IsLawfulAt (report_lines r)

-- line n, counted from 1, is the first that doesn't
pub record IsUnlawful (r : Report) (n : ℕ) : Type 0 where
  pub before : List ReportLine
  pub line : ReportLine
  pub rest : List ReportLine
  pub lines : report_lines r ≡ before ++ line ∷ rest
  pub number : n ≡ length before + 1
  pub lawful : AllByRecursion IsLawfulAt before
  pub unlawful : IsLawfulAt line → ⊥
