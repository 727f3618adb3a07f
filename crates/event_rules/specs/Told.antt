-- What the replies of a life's lines tell of its events, line by line.
use Rattle.std.specs.Prelude.{◌≡◌, ◌↔◌, ℕ, ◌+◌, ◌<◌, Bool, false, nat_lt, List, Some, IsTrue, length, get_or, map, take, slice_get}
use Rattle.std.specs.List.{count_by}
use Rattle.tx_events.specs.declared.event.By.{By}
use Rattle.tx_events.specs.declared.event.Event.{Event}
use Rattle.tx_events.specs.declared.multi.MultiEvent.{MultiEvent}
use Rattle.tx_events.specs.Events.{by_of, events_of}
use Rattle.tx_events.specs.Multis.{multi_by}
use Rattle.tx_model.specs.Lines.{span_of}
use Rattle.tx_model.specs.Rounds.{lines_in}
use Rattle.report_law.specs.Events.{IsCommitLogged, StandsAt, lines_before, rounds_before}
use Rattle.report_law.specs.Places.{IsNotLate, multis_of}
use Rattle.report_law.specs.Steps.{HasFirst, HasFirstMultis, Judged}
use Rattle.event_rules.specs.Lined.{events_in, number_at}

-- the event at this place, whose command stands there, is told by the command's reply in its turn
abbrev pub IsToldEvent : (j : Judged) → ℕ → (e : Event) → StandsAt j (by_of e) → Type 0
IsToldEvent j p e s =
    (es : List Event) × HasFirst j (lines_before j (by_of e) s) s.line es × (slice_get es (length (events_of (by_of e) (take p j.life.events))) ≡ Some e)

-- how many events are of the first lines
abbrev pub count_before : Judged → ℕ → ℕ
count_before j lines = count_by (λ k. nat_lt k lines) (events_in j).numbers

-- of each event of the first lines, line by line, whether its line's reply tells it in its turn
pub record AreToldEvents (j : Judged) (lines : ℕ) (told : List Bool) : Type 0 where
  pub size : length told ≡ count_before j lines
  pub each : (by : By) (s : StandsAt j by) → number_at j by s < lines → (rank : ℕ) (e : Event) → slice_get (events_of by j.life.events) rank ≡ Some e
      → IsTrue (get_or told (count_before j (number_at j by s) + rank) false) ↔ ((es : List Event) × HasFirst j (lines_before j by s) s.line es × (slice_get es rank ≡ Some e))

-- whether each of these events is told in its turn stands behind what was there
pub record AreMarked (old new : List Bool) (own told : List Event) : Type 0 where
  pub size : length new ≡ length old + length own
  pub front : (k : ℕ) → k < length old → get_or new k false ≡ get_or old k false
  pub each : (rank : ℕ) (e : Event) → slice_get own rank ≡ Some e → IsTrue (get_or new (length old + rank) false) ↔ (slice_get told rank ≡ Some e)

-- the multixact event at this place, whose command stands there, is told by the command's reply in its turn
abbrev pub IsToldMulti : (j : Judged) → ℕ → (e : MultiEvent) → StandsAt j (multi_by e) → Type 0
IsToldMulti j p e s =
    (es : List MultiEvent) × HasFirstMultis j (span_of j.life.events (rounds_before j (multi_by e) s) (lines_in s.step)) s.line es
    × (slice_get es (length (multis_of (multi_by e) (take p j.life.multis))) ≡ Some e)

-- what an event's line asks but for the rules of the history itself
pub record IsItsEvent (j : Judged) (p : ℕ) (e : Event) : Type 0 where
  pub command : StandsAt j (by_of e)
  pub in_time : IsNotLate j.steps (map by_of (take p j.life.events)) (by_of e)
  pub told : IsToldEvent j p e command
  pub logged : IsCommitLogged j e

pub record IsItsMulti (j : Judged) (p : ℕ) (e : MultiEvent) : Type 0 where
  pub command : StandsAt j (multi_by e)
  pub in_time : IsNotLate j.steps (map multi_by (take p j.life.multis)) (multi_by e)
  pub told : IsToldMulti j p e command
