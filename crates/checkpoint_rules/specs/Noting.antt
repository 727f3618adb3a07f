-- The checkpoints of a life, step by step, as far as both its histories are legal.
use Rattle.std.specs.Prelude.{◌≡◌, ℕ, ◌≤◌, List, [], ◌∷◌, ◌++◌, length, take}
use Rattle.std.specs.List.{count_by, flat_map}
use Rattle.tx_events.specs.declared.multi.MultiEvent.{MultiEvent}
use Rattle.tx_model.specs.declared.report.Step.{Step}
use Rattle.tx_model.specs.Lines.{has_line}
use Rattle.tx_model.specs.Rounds.{lines_in}
use Rattle.history_check.specs.Replays.{Replayed}
use Rattle.report_law.specs.Places.{has_multi_line}
use Rattle.report_law.specs.Steps.{Judged}
use Rattle.checkpoint_rules.specs.Behind.{AreCheckpoints, AreMultiCounters, Walked}
use Rattle.checkpoint_rules.specs.declared.counted.Checkpoints.{Checkpoints}
use Rattle.tx_events.specs.declared.record.Counters.{Counters}
use Rattle.event_rules.specs.Fronts.{IsFront}
use Rattle.checkpoint_rules.specs.declared.checkpoints.Point.{Point}

-- a life with its steps so far, and the first of its multixact events, which are legal
pub record Noting : Type 0 where
  pub j : Judged
  pub before : List Step
  pub multis : List MultiEvent

abbrev pub walked_of : Noting → Walked
walked_of at = record { j = at.j; before = at.before }

abbrev pub with_step : Noting → Step → Noting
with_step at s = record at { before = at.before ++ s ∷ [] }

-- how many events of each history stand behind the steps so far
abbrev pub from_of : Noting → ℕ
from_of at = count_by (has_line (flat_map lines_in at.before)) at.j.life.events

abbrev pub multi_from_of : Noting → ℕ
multi_from_of at = count_by (has_multi_line (flat_map lines_in at.before)) at.j.life.multis

-- what is known of both histories is so
pub record AreFronts (at : Noting) (places : Replayed) (column : List Counters) : Type 0 where
  pub front : IsFront at.j.begun.counters at.j.life.events places
  pub multi_front : at.multis ≡ take (length at.multis) at.j.life.multis
  pub column_is : AreMultiCounters at.j.begun.counters at.multis column

pub record IsPointOf (at : Noting) (point : Point) : Type 0 where
  pub from_is : point.from ≡ from_of at
  pub multi_from_is : point.multi_from ≡ multi_from_of at

-- both histories are legal up to there
pub record IsReached (at : Noting) (places : Replayed) : Type 0 where
  pub events : from_of at ≤ length places.events
  pub multis : multi_from_of at ≤ length at.multis

abbrev pub AreNoted : Noting → Replayed → Checkpoints → Type 0
AreNoted at places c = IsReached at places → AreCheckpoints at.j at.before c
