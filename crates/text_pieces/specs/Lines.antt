-- The lines of a list, printed in one go or in pieces.
use Rattle.std.specs.Prelude.{ℕ, ◌+◌, Err, List, Ok, Result, [], ◌∷◌, ◌++◌}
use Rattle.std.specs.List.{flat_map}
use Rattle.report_text.specs.EventText.{event_words}
use Rattle.report_text.specs.Words.{line_text}
use Rattle.tx_events.specs.declared.event.Event.{Event}

-- the line of each element, the first one of which has this place
abbrev pub lines_text : {X : Type 0} → (ℕ → X → List ℕ) → ℕ → List X → List ℕ
lines_text line place [] = []
lines_text line place (x ∷ xs) = line place x ++ lines_text line (place + 1) xs

-- a piece, where memory sufficed for it
abbrev pub piece_text : {E : Type 0} → Result (List ℕ) E → List ℕ
piece_text (Ok text) = text
piece_text (Err e) = []

-- the lines of events
abbrev pub events_text : List (List ℕ) → List Event → List ℕ
events_text names events = flat_map (λ e. line_text (event_words names e)) events
