-- What every report's lives have, by the grammar: their sessions are few, and a session's commands are numbered on.
use Rattle.std.specs.Prelude.{◌≡◌, ℕ, ◌<◌, List, Some}
use Rattle.std.specs.List.{AllByRecursion, flat_map, slice_get}
use Rattle.tx_events.specs.declared.event.By.{By}
use Rattle.tx_events.specs.declared.event.Event.{Event}
use Rattle.tx_events.specs.declared.multi.MultiEvent.{MultiEvent}
use Rattle.tx_events.specs.Events.{by_of}
use Rattle.tx_events.specs.Multis.{multi_by}
use Rattle.tx_model.specs.declared.report.LifeReport.{LifeReport}
use Rattle.tx_model.specs.declared.report.Line.{Line}
use Rattle.tx_model.specs.Rounds.{lines_in}

-- of two lines of a session the later one has the greater number
abbrev pub AreInOrder : List Line → Type 0
AreInOrder lines = (p q : ℕ) (a b : Line) → p < q → slice_get lines p ≡ Some a → slice_get lines q ≡ Some b → a.by.session ≡ b.by.session → a.by.command < b.by.command

abbrev pub IsFew : By → Type 0
IsFew by = by.session < 64

pub record IsNumbered (r : LifeReport) : Type 0 where
  pub order : AreInOrder (flat_map lines_in r.steps)
  pub lines : AllByRecursion (λ (l : Line). IsFew l.by) (flat_map lines_in r.steps)
  pub events : AllByRecursion (λ (e : Event). IsFew (by_of e)) r.life.events
  pub multis : AllByRecursion (λ (e : MultiEvent). IsFew (multi_by e)) r.life.multis
