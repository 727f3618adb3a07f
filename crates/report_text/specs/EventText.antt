-- The lines of a history and of its multixacts.
use Rattle.std.specs.Prelude.{ℕ, List, [], ◌∷◌, ◌++◌, codes}
use Rattle.std.specs.Fmt.{decimal}
use Rattle.report_text.specs.Words.{name_at}
use Rattle.report_text.specs.MemberText.{member_words}
use Rattle.tx_events.specs.Events.{by_of}
use Rattle.tx_events.specs.Multis.{multi_by}
use Rattle.tx_events.specs.declared.event.By.{By}
use Rattle.tx_events.specs.declared.event.Event.{Event}
use Rattle.tx_events.specs.declared.event.Event.TheVariants as events
use Rattle.tx_events.specs.declared.multi.MultiEvent.{MultiEvent}
use Rattle.tx_events.specs.declared.multi.MultiEvent.TheVariants as multis

-- the session and the number of a command
abbrev pub by_words : List (List ℕ) → By → List (List ℕ)
by_words names by = name_at names by.session ∷ decimal by.command ∷ []

-- an event's first word
unfoldable pub event_word : Event → List ℕ
event_word (events.Id by id) = codes "id"
event_word (events.Sub by parent id) = codes "sub"
event_word (events.Undo by id) = codes "undo"
event_word (events.Commit by top) = codes "commit"
event_word (events.Abort by top) = codes "abort"
event_word (events.Snap name by) = codes "snap"
event_word (events.SnapDrop name by) = codes "drop"
event_word (events.Oldest by oldest) = codes "oldest"
event_word (events.Ask by id) = codes "ask"

-- its words behind the session and the number
abbrev pub event_rest : Event → List (List ℕ)
event_rest (events.Id by id) = decimal id ∷ []
event_rest (events.Sub by parent id) = decimal parent ∷ decimal id ∷ []
event_rest (events.Undo by id) = decimal id ∷ []
event_rest (events.Commit by top) = decimal top ∷ []
event_rest (events.Abort by top) = decimal top ∷ []
event_rest (events.Snap name by) = name ∷ []
event_rest (events.SnapDrop name by) = name ∷ []
event_rest (events.Oldest by oldest) = decimal oldest ∷ []
event_rest (events.Ask by id) = decimal id ∷ []

-- the line of an event
abbrev pub event_words : List (List ℕ) → Event → List (List ℕ)
event_words names e = event_word e ∷ by_words names (by_of e) ++ event_rest e

-- the first word of a multixact event
unfoldable pub multi_event_word : MultiEvent → List ℕ
multi_event_word (multis.Gen by multi offset members) = codes "gen"
multi_event_word (multis.Hold by multi) = codes "hold"
multi_event_word (multis.Unhold by multi) = codes "unhold"
multi_event_word (multis.Raise by multi offset) = codes "raise"

-- its words behind the session and the number
abbrev pub multi_event_rest : MultiEvent → List (List ℕ)
multi_event_rest (multis.Gen by multi offset members) = decimal multi ∷ decimal offset ∷ member_words members
multi_event_rest (multis.Hold by multi) = decimal multi ∷ []
multi_event_rest (multis.Unhold by multi) = decimal multi ∷ []
multi_event_rest (multis.Raise by multi offset) = decimal multi ∷ decimal offset ∷ []

-- the line of a multixact event
abbrev pub multi_event_words : List (List ℕ) → MultiEvent → List (List ℕ)
multi_event_words names e = multi_event_word e ∷ by_words names (multi_by e) ++ multi_event_rest e
