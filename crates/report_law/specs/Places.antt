-- Where the commands of a life stand in its history, and how far the history is legal.
use Rattle.std.specs.Prelude.{◌≡◌, ℕ, ◌+◌, ◌≤◌, Bool, true, false, List, [], ◌∷◌, ◌++◌, Option, Some, None, take}
use Rattle.std.specs.List.{AllByRecursion, list_any, count_by}
use Rattle.tx_events.specs.declared.event.By.{By}
use Rattle.tx_events.specs.declared.event.Event.{Event}
use Rattle.tx_events.specs.declared.multi.MultiEvent.{MultiEvent}
use Rattle.tx_events.specs.declared.record.Counters.{Counters}
use Rattle.tx_events.specs.Events.{same_by}
use Rattle.tx_events.specs.History.{IsLegal}
use Rattle.tx_events.specs.Multis.{AreLegalMultis, BaseOffset}
use Rattle.tx_model.specs.declared.report.Line.{Line}
use Rattle.tx_model.specs.declared.report.Step.{Step}
use Rattle.tx_model.specs.Lines.{has_line}
use Rattle.tx_model.specs.Rounds.{lines_in}
pub use Rattle.life_law.specs.MultiPlaces.{MayReadIn, MayReadMultis, has_multi_line, multi_span, multis_of}

-- the line of this command
abbrev pub is_by : By → Line → Bool
is_by by l = same_by l.by by

-- the number of the step, counted from 0, to which the command belongs
abbrev pub step_of : By → List Step → Option ℕ
step_of by [] = None
step_of by (s ∷ steps) = here (list_any (is_by by) (lines_in s)) (step_of by steps)
  where
    here : Bool → Option ℕ → Option ℕ
    here true later = Some 0
    here false None = None
    here false (Some n) = Some (n + 1)

-- no event before belongs to a later step
abbrev pub IsNotLate : List Step → List By → By → Type 0
IsNotLate steps before by = AllByRecursion (λ b. IsStepFrom (step_of by steps) (step_of b steps)) before
  where
    IsStepFrom : Option ℕ → Option ℕ → Type 0
    IsStepFrom (Some n) (Some m) = m ≤ n
    IsStepFrom _ _ = Unit {0}

-- The history is legal up to the end of the round, and its events there are those of the lines up to there, round by
-- round. What rests on events from the first one on that isn't lawful isn't judged, since that event's own line is.
pub record IsJudged (base : Counters) (h : List Event) (before lines : List Line) : Type 0 where
  pub legal : IsLegal base (take (count_by (has_line (before ++ lines)) h) h)
  pub earlier : AllByRecursion (λ e. has_line before e ≡ true) (take (count_by (has_line before) h) h)
  pub these : AllByRecursion (λ e. has_line (before ++ lines) e ≡ true) (take (count_by (has_line (before ++ lines)) h) h)

-- the same of the multixacts
pub record AreMultisJudged (base : Counters) (known : BaseOffset) (h : List MultiEvent) (before lines : List Line) : Type 0 where
  pub legal : AreLegalMultis base known (take (count_by (has_multi_line (before ++ lines)) h) h)
  pub earlier : AllByRecursion (λ e. has_multi_line before e ≡ true) (take (count_by (has_multi_line before) h) h)
  pub these : AllByRecursion (λ e. has_multi_line (before ++ lines) e ≡ true) (take (count_by (has_multi_line (before ++ lines)) h) h)
