-- A life's steps so far.
use Rattle.std.specs.Prelude.{◌≡◌, ℕ, List, [], get_or, take, true}
use Rattle.std.specs.List.{flat_map, list_any}
use Rattle.tx_events.specs.declared.multi.MultiEvent.{MultiEvent}
use Rattle.tx_model.specs.declared.report.Step.{Step}
use Rattle.tx_model.specs.declared.report.Step.TheVariants as steps
use Rattle.tx_model.specs.Rounds.{lines_in}
use Rattle.report_law.specs.Steps.{Judged}
use Rattle.record_rules.specs.AskedFor.{is_checkpoint}
use Rattle.checkpoint_rules.specs.Behind.{AreMultiCounters}
use Rattle.reply_lines.specs.declared.known.Known.{Known}
use Rattle.report_check.specs.Dumped.{IsDumping}
use Rattle.checkpoint_rules.specs.Noting.{AreNoted, Noting}
use Rattle.report_check.specs.Passing.{IsPassed}
use Rattle.report_check.specs.declared.steps.SoFar.{SoFar}
use Rattle.report_check.specs.declared.steps.Tables.{Tables}

-- a step of a life, of this number, and the first of the life's multixact events, which are legal
pub record AtStep : Type 0 where
  pub j : Judged
  pub round : ℕ
  pub step : Step
  pub multis : List MultiEvent

-- a life, and what is known of it before its lines are judged
pub record KnownLife : Type 0 where
  pub j : Judged
  pub known : Known

-- the steps before it
abbrev pub steps_before : AtStep → List Step
steps_before of = take of.round of.j.steps

abbrev pub noting_of : Judged → List Step → List MultiEvent → Noting
noting_of j before multis = record { j = j; before = before; multis = multis }

abbrev pub noting_at : AtStep → Noting
noting_at of = noting_of of.j (steps_before of) of.multis

-- what is made once of the life is so, the column where a checkpoint is held against it
pub record AreTables (j : Judged) (k : Known) (t : Tables) : Type 0 where
  pub column : list_any is_checkpoint j.steps ≡ true → AreMultiCounters j.begun.counters k.multi_places.events t.column.items
  pub dumping : IsDumping j k t.dumping

-- what is kept of these steps is so
pub record IsSoFar (j : Judged) (before : List Step) (k : Known) (s : SoFar) : Type 0 where
  pub passed : IsPassed j (flat_map lines_in before) s.passed
  pub noted : AreNoted (noting_of j before k.multi_places.events) k.places s.checkpoints

-- the step at this place; an empty round, where there is none
abbrev pub step_or : List Step → ℕ → Step
step_or all place = get_or all place (steps.Round 0 [])
