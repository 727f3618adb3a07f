-- The rules of the lines of both histories.
use Rattle.std.specs.Prelude.{◌≡◌, ℕ, ◌≤◌, List, ◌++◌, Some, length, map, take, slice_get, Contains}
use Rattle.std.specs.List.{AllByRecursion, flat_map}
use Rattle.tx_events.specs.declared.event.By.{By}
use Rattle.tx_events.specs.declared.event.Event.{Event}
use Rattle.tx_events.specs.declared.event.Event.TheVariants as events
use Rattle.tx_events.specs.declared.multi.MultiEvent.{MultiEvent}
use Rattle.tx_events.specs.declared.record.Rec.TheVariants as records
use Rattle.tx_events.specs.Events.{by_of, events_of}
use Rattle.tx_events.specs.History.{ComesInTurn, MayCome}
use Rattle.tx_events.specs.Multis.{MultiMayCome, multi_by}
use Rattle.tx_model.specs.declared.report.Line.{Line}
use Rattle.tx_model.specs.declared.report.Step.{Step}
use Rattle.tx_model.specs.Lines.{span_of}
use Rattle.tx_model.specs.Rounds.{lines_in}
use Rattle.report_law.specs.MultiLines.{of_records}
use Rattle.report_law.specs.Places.{IsNotLate, multis_of}
use Rattle.report_law.specs.Steps.{HasFirst, HasFirstMultis, Judged}

-- where a command stands: in a round of the life, behind these lines
pub record StandsAt (j : Judged) (by : By) : Type 0 where
  pub round : ℕ
  pub step : Step
  pub told : slice_get j.steps round ≡ Some step
  pub place : ℕ
  pub line : Line
  pub stands : slice_get (lines_in step) place ≡ Some line
  pub its : line.by ≡ by

-- the lines of the life before the command's round, and before the command
abbrev pub rounds_before : (j : Judged) (by : By) → StandsAt j by → List Line
rounds_before j by s = flat_map lines_in (take s.round j.steps)

abbrev pub lines_before : (j : Judged) (by : By) → StandsAt j by → List Line
lines_before j by s = rounds_before j by s ++ take s.place (lines_in s.step)

-- a commit has its record; which subids that names is told by its own line
abbrev pub IsCommitLogged : Judged → Event → Type 0
IsCommitLogged j (events.Commit by top) = (subs : List ℕ) × Contains j.life.recs (records.Commit top subs)
IsCommitLogged j e = Unit {0}

-- The event at this place: it may come there, its command is in this life and no event before it is of a later round,
-- it is the one that its command's reply tells in its turn, and a commit has its record.
pub record IsLawfulEvent (j : Judged) (p : ℕ) (e : Event) : Type 0 where
  pub rule : MayCome j.begun.counters (take p j.life.events) e
  pub turn : ComesInTurn (take p j.life.events) e
  pub command : StandsAt j (by_of e)
  pub in_time : IsNotLate j.steps (map by_of (take p j.life.events)) (by_of e)
  pub told : (es : List Event) × HasFirst j (lines_before j (by_of e) command) command.line es
      × (slice_get es (length (events_of (by_of e) (take p j.life.events))) ≡ Some e)
  pub logged : IsCommitLogged j e

-- the same of a multixact event
pub record IsLawfulMulti (j : Judged) (p : ℕ) (e : MultiEvent) : Type 0 where
  pub rule : MultiMayCome j.begun.counters (of_records j.begun.counters j.begun.recorded) (take p j.life.multis) e
  pub turn : AllByRecursion (λ f. (multi_by f).session ≡ (multi_by e).session → (multi_by f).command ≤ (multi_by e).command) (take p j.life.multis)
  pub command : StandsAt j (multi_by e)
  pub in_time : IsNotLate j.steps (map multi_by (take p j.life.multis)) (multi_by e)
  pub told : (es : List MultiEvent) × HasFirstMultis j (span_of j.life.events (rounds_before j (multi_by e) command) (lines_in command.step)) command.line es
      × (slice_get es (length (multis_of (multi_by e) (take p j.life.multis))) ≡ Some e)
