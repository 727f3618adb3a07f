-- The lines that sessions told, with the places of their rounds.
use Rattle.std.specs.Prelude.{◌≡◌, ℕ, ◌+◌, ◌≤◌, List, [], ◌∷◌, length, map}
use Rattle.std.specs.List.{filter, flat_map}
use Rattle.notes.specs.Lists.{Grows}
use Rattle.tx_model.specs.declared.report.Line.{Line}
use Rattle.tx_model.specs.declared.report.Step.{Step}
use Rattle.tx_model.specs.declared.report.Step.TheVariants as steps
use Rattle.tx_model.specs.Lines.{is_line_of}
use Rattle.tx_model.specs.Replies.{RoundSpan}
use Rattle.tx_core.specs.declared.entry.Entry.{Entry}
use Rattle.tx_core.specs.Entries.{history}
use Rattle.tx_core.specs.MultiEntries.{multi_history}

-- a place of both histories: behind so many events of each, with the lists as they stood there
pub record Place : Type 0 where
  pub lists : List (List Entry)
  pub events : ℕ
  pub multis : ℕ

abbrev pub place_of : List (List Entry) → Place
place_of lists = record { lists = lists; events = length (history lists); multis = length (multi_history lists) }

pub record IsNoLater (a b : Place) : Type 0 where
  pub grown : Grows a.lists b.lists
  pub events : a.events ≤ b.events
  pub multis : a.multis ≤ b.multis

-- where a round stands in both histories, and the lists as they stood where it began
pub record Span : Type 0 where
  pub begun : List (List Entry)
  pub events : RoundSpan
  pub multis : RoundSpan

abbrev pub between : Place → Place → Span
between from to = record {
  begun = from.lists;
  events = record { from = from.events; to = to.events };
  multis = record { from = from.multis; to = to.multis };
}

-- A line, and the place of its round in the histories: behind the events of the rounds before, and among those up to the
-- round's end. While the round runs, its end is somewhere among the events so far.
pub record Told : Type 0 where
  pub line : Line
  pub span : Span

abbrev pub lines_of : List Told → List Line
lines_of told = map (λ t. t.line) told

-- lines of one round
abbrev pub told_in : Span → List Line → List Told
told_in span lines = map (λ l. record { line = l; span = span }) lines

-- a round that is over, with its lines in the report's order
pub record ToldRound : Type 0 where
  pub span : Span
  pub lines : List Line

abbrev pub lines_by : ℕ → List Line → List Line
lines_by n lines = filter (is_line_of n) lines

-- what a session told in a round, and in all of these
abbrev pub told_of : ℕ → ToldRound → List Told
told_of n r = told_in r.span (lines_by n r.lines)

abbrev pub told_by : ℕ → List ToldRound → List Told
told_by n rounds = flat_map (told_of n) rounds

-- the lines of all rounds
abbrev pub all_lines : List ToldRound → List Line
all_lines rounds = flat_map (λ r. r.lines) rounds

-- where a round stands in the one history, and in the other
abbrev pub in_events : ToldRound → RoundSpan
in_events r = r.span.events

abbrev pub in_multis : ToldRound → RoundSpan
in_multis r = r.span.multis

-- in a history, each round begins where the one before it ended, the first of them here, and the last ends there
abbrev pub Follow : (ToldRound → RoundSpan) → ℕ → List ToldRound → ℕ → Type 0
Follow span from [] to = from ≡ to
Follow span from (r ∷ rounds) to = ((span r).from ≡ from) × (from ≤ (span r).to) × Follow span (span r).to rounds to

-- the rounds as steps of a report, numbered on from n
abbrev pub steps_of : ℕ → List ToldRound → List Step
steps_of n [] = []
steps_of n (r ∷ rounds) = steps.Round n r.lines ∷ steps_of (n + 1) rounds
