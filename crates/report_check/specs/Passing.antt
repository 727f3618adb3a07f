-- A life's lines so far.
use Rattle.std.specs.Prelude.{◌≡◌, ℕ, ◌+◌, cond, List, length, take}
use Rattle.std.specs.List.{count_by, flat_map}
use Rattle.tx_model.specs.declared.report.Line.{Line}
use Rattle.tx_model.specs.declared.report.Step.{Step}
use Rattle.tx_model.specs.Rounds.{lines_in}
use Rattle.report_law.specs.Steps.{Judged, is_ok_trim}
use Rattle.event_rules.specs.Told.{AreToldEvents}
use Rattle.standing_rules.specs.Sessions.{AreBehind, Lived}
use Rattle.report_check.specs.declared.round_lines.Passed.{Passed}

abbrev pub lived_by : Judged → List Line → Lived
lived_by j lines = record { recs = j.life.recs; events = j.life.events; multis = j.life.multis; lines = lines }

-- what is kept of these lines is so
pub record IsPassed (j : Judged) (lines : List Line) (p : Passed) : Type 0 where
  pub sessions : AreBehind (lived_by j lines) 64 p.sessions.items
  pub told : AreToldEvents j (length lines) p.told.items
  pub size : p.lines ≡ length lines
  pub trims : p.trims ≡ count_by is_ok_trim lines

abbrev pub trims_with : ℕ → Line → ℕ
trims_with trims line = cond (is_ok_trim line) (trims + 1) trims

-- a step of a life, of this number
pub record AtRound : Type 0 where
  pub j : Judged
  pub round : ℕ
  pub step : Step

-- the lines of the steps before it
abbrev pub lines_before : AtRound → List Line
lines_before of = flat_map lines_in (take of.round of.j.steps)
