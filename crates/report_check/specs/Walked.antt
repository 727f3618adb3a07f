-- How the lines of a part of a report were judged.
use Rattle.std.specs.Prelude.{◌≡◌, ℕ, ◌<◌, ◌≤◌, ◌↔◌, Bool, true, false, List, [], ◌∷◌, ◌++◌, Option, length, slice_index}
use Rattle.std.specs.List.{AllByRecursion}
use Rattle.tx_events.specs.declared.multi.MultiEvent.{MultiEvent}
use Rattle.tx_events.specs.Multis.{multi_by}
use Rattle.tx_model.specs.declared.report.How.{How}
use Rattle.report_law.specs.ReportLines.{IsLawfulAt, ReportLine, event, log, logged, multi, placed, plain}
use Rattle.report_law.specs.Steps.{Judged}
use Rattle.report_check.specs.Walk.{IsFirstBroken}
use Rattle.report_check.specs.declared.walked.Walked.{Walked}
use Rattle.report_check.specs.declared.walked.Walked.TheVariants as walks

-- the number of each session's latest command among these events, 0 where it has none
pub record AreLatest (h : List MultiEvent) (last : List ℕ) : Type 0 where
  pub size : length last ≡ 64
  pub each : (session command : ℕ) → session < 64 → (slice_index last session ≤ command) ↔ AllByRecursion (λ f. (multi_by f).session ≡ session → (multi_by f).command ≤ command) h

-- all are lawful, so many; or one breaks its rule behind so many that are
abbrev pub IsWalked : List ReportLine → Walked → Type 0
IsWalked lines (walks.Lawful n) = AllByRecursion IsLawfulAt lines × (n ≡ length lines)
IsWalked lines (walks.Broken n) = IsFirstBroken lines n

-- P, if all were
abbrev pub IfLawful : Walked → Type 0 → Type 0
IfLawful (walks.Lawful n) P = P
IfLawful (walks.Broken n) P = Unit {0}

abbrev pub is_lawful : Walked → Bool
is_lawful (walks.Lawful n) = true
is_lawful (walks.Broken n) = false

-- ---- the lines of a life from some part on

abbrev pub log_lines : Option How → Judged → List ReportLine
log_lines crash j = (log crash j ∷ placed (logged j) 0 j.life.recs) ++ plain ∷ []

abbrev pub behind_events : Option How → Judged → List ReportLine
behind_events crash j = (plain ∷ placed (multi j) 0 j.life.multis) ++ log_lines crash j

abbrev pub behind_steps : Option How → Judged → List ReportLine
behind_steps crash j = (plain ∷ placed (event j) 0 j.life.events) ++ behind_events crash j
