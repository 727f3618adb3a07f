-- The lines of histories and records, by what they say.
use Rattle.std.specs.Prelude.{◌≡◌, ℕ, List, ◌∷◌}
use Rattle.std.specs.Fmt.{decimal}
use Rattle.tx_events.specs.declared.event.Event.{Event}
use Rattle.tx_events.specs.declared.multi.MultiEvent.{MultiEvent}
use Rattle.tx_events.specs.declared.record.Rec.{Rec}
use Rattle.report_text.specs.Words.{line_text}
use Rattle.report_text.specs.EventText.{event_words, multi_event_words}
use Rattle.report_text.specs.RecordText.{record_words}

abbrev pub event_line : List (List ℕ) → Event → List ℕ
event_line names e = line_text (event_words names e)

abbrev pub multi_line : List (List ℕ) → MultiEvent → List ℕ
multi_line names e = line_text (multi_event_words names e)

-- the record of this number
abbrev pub record_line : ℕ → Rec → List ℕ
record_line number r = line_text (decimal number ∷ record_words r)

-- the line says x, which is one of those that fit
pub record IsLineOf {X : Type 0} (fits : X → Type 0) (line_of : X → List ℕ) (line : List ℕ) (x : X) : Type 0 where
  pub fit : fits x
  pub text : line ≡ line_of x
