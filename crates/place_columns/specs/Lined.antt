-- The lines of a life, and which of them an event is of.
use Rattle.std.specs.Prelude.{◌≡◌, ℕ, ◌+◌, ◌<◌, ◌==◌, cond, max, List, [], ◌∷◌, ◌++◌, Some, map, slice_get, slice_index_or}
use Rattle.std.specs.List.{position_or_len}
use Rattle.tx_events.specs.declared.event.By.{By}
use Rattle.tx_events.specs.Events.{same_by}
use Rattle.tx_model.specs.declared.report.Line.{Line}
use Rattle.tx_model.specs.declared.report.Step.{Step}
use Rattle.tx_model.specs.Rounds.{lines_in}
use Rattle.place_columns.specs.declared.lines.LineAt.{LineAt}

-- ---- lines

abbrev pub line_by : Line → By
line_by l = l.by

abbrev pub line_at : ℕ → Line → LineAt
line_at n l = record { by = l.by; step = n }

-- the lines of these steps, of which the first has number n
abbrev pub lines_from : ℕ → List Step → List LineAt
lines_from n [] = []
lines_from n (s ∷ steps) = map (line_at n) (lines_in s) ++ lines_from (n + 1) steps

abbrev pub bys_of : List LineAt → List By
bys_of lines = map (λ (l : LineAt). l.by) lines

-- each session's commands stand in order, none twice
abbrev pub AreInOrder : List By → Type 0
AreInOrder bys = (p q : ℕ) (a b : By) → p < q → slice_get bys p ≡ Some a → slice_get bys q ≡ Some b → a.session ≡ b.session → a.command < b.command

-- the number of the command's line, counted from 0; how many lines there are, where it has none
abbrev pub number_of : List LineAt → By → ℕ
number_of lines by = position_or_len (λ (l : LineAt). same_by l.by by) lines

-- ---- events, by the numbers of their lines

-- how many steps there are to each line, and of which line each event is
pub record Numbered : Type 0 where
  pub steps : List ℕ
  pub numbers : List ℕ

-- the events of these commands among the lines
abbrev pub numbered : List LineAt → List By → Numbered
numbered lines bys = record { steps = map (λ (l : LineAt). l.step) lines; numbers = map (number_of lines) bys }

-- at which places from n on this number stands
abbrev pub places_from : ℕ → ℕ → List ℕ → List ℕ
places_from i n [] = []
places_from i n (k ∷ ks) = cond (k == i) (n ∷ places_from i (n + 1) ks) (places_from i (n + 1) ks)

abbrev pub places_of : ℕ → List ℕ → List ℕ
places_of i ks = places_from i 0 ks

-- the greatest of them
abbrev pub most_of : List ℕ → ℕ
most_of [] = 0
most_of (k ∷ ks) = max k (most_of ks)

-- the step of the line of this number, 0 where there is none
abbrev pub step_at : List ℕ → ℕ → ℕ
step_at steps k = slice_index_or steps k 0
