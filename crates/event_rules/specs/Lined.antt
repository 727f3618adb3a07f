-- A life by the numbers of its lines.
use Rattle.std.specs.Prelude.{◌≡◌, ℕ, ◌+◌, ◌<◌, nat_lt, true, List, length, map, take}
use Rattle.std.specs.List.{AllByRecursion, count_by}
use Rattle.tx_events.specs.declared.event.By.{By}
use Rattle.tx_events.specs.declared.event.Event.{Event}
use Rattle.tx_events.specs.declared.multi.MultiEvent.{MultiEvent}
use Rattle.tx_events.specs.Events.{by_of}
use Rattle.tx_events.specs.Multis.{multi_by}
use Rattle.tx_model.specs.declared.report.Line.{Line}
use Rattle.tx_model.specs.Lines.{has_line}
use Rattle.place_columns.specs.Lined.{AreInOrder, Numbered, line_by, lines_from, numbered}
use Rattle.report_law.specs.Events.{StandsAt, rounds_before}
use Rattle.report_law.specs.Places.{has_multi_line}
use Rattle.report_law.specs.Steps.{Judged, lines_of}

-- each session's commands stand in order among the life's lines
abbrev pub AreLinesInOrder : Judged → Type 0
AreLinesInOrder j = AreInOrder (map line_by (lines_of j))

-- the events of a life, by their lines
abbrev pub events_in : Judged → Numbered
events_in j = numbered (lines_from 0 j.steps) (map by_of j.life.events)

abbrev pub multis_in : Judged → Numbered
multis_in j = numbered (lines_from 0 j.steps) (map multi_by j.life.multis)

-- the number of a command's line
abbrev pub number_at : (j : Judged) (by : By) → StandsAt j by → ℕ
number_at j by s = length (rounds_before j by s) + s.place

-- as many of the first events as are of these lines are of these
abbrev pub AreTheirs : List Line → List Event → Type 0
AreTheirs lines h = AllByRecursion (λ e. has_line lines e ≡ true) (take (count_by (has_line lines) h) h)

abbrev pub AreMultisTheirs : List Line → List MultiEvent → Type 0
AreMultisTheirs lines h = AllByRecursion (λ e. has_multi_line lines e ≡ true) (take (count_by (has_multi_line lines) h) h)

-- as many of the first numbers as are below this one are below it
abbrev pub AreBelow : ℕ → List ℕ → Type 0
AreBelow n numbers = AllByRecursion (λ k. k < n) (take (count_by (λ k. nat_lt k n) numbers) numbers)
