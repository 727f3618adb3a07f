-- What the words of an event say, and of a multixact event.
use Rattle.std.specs.Prelude.{ℕ, List, [], codes, cond, Option, Some, None}
use Rattle.std.specs.Str.{bytes_eq}
use Rattle.tx_events.specs.declared.event.By.{By}
use Rattle.tx_events.specs.declared.event.Event.{Event}
use Rattle.tx_events.specs.declared.event.Event.TheVariants as events
use Rattle.tx_events.specs.declared.multi.MultiEvent.{MultiEvent}
use Rattle.tx_events.specs.declared.multi.MultiEvent.TheVariants as multis
use Rattle.report_words.specs.Reading.{◌>>=◌, word_at, number_at, full_id, full_multi, name_of, by_at}
use Rattle.report_words.specs.Members.{until_arrow, member_of}

-- an event that names an id first
unfoldable pub id_event : List ℕ → By → ℕ → List (List ℕ) → Option Event
id_event word by id ws =
    cond (bytes_eq word (codes "id")) (Some (events.Id by id))
    (cond (bytes_eq word (codes "sub")) (number_at ws >>= λ below. full_id below.0 >>= λ x. Some (events.Sub by id x))
    (cond (bytes_eq word (codes "undo")) (Some (events.Undo by id))
    (cond (bytes_eq word (codes "commit")) (Some (events.Commit by id))
    (cond (bytes_eq word (codes "abort")) (Some (events.Abort by id))
    (cond (bytes_eq word (codes "oldest")) (Some (events.Oldest by id))
    (cond (bytes_eq word (codes "ask")) (Some (events.Ask by id)) None))))))

unfoldable pub event_rest_at : List ℕ → By → List (List ℕ) → Option Event
event_rest_at word by ws =
    cond (bytes_eq word (codes "snap")) (word_at ws >>= λ w. name_of w.0 >>= λ name. Some (events.Snap name by))
    (cond (bytes_eq word (codes "drop")) (word_at ws >>= λ w. name_of w.0 >>= λ name. Some (events.SnapDrop name by))
    (number_at ws >>= λ n. full_id n.0 >>= λ id. id_event word by id n.1))

unfoldable pub event_at : List (List ℕ) → List (List ℕ) → Option Event
event_at names ws = do
  word ← word_at ws
  by ← by_at names word.1
  event_rest_at word.0 by.0 by.1

unfoldable pub gen_at : By → ℕ → List (List ℕ) → Option MultiEvent
gen_at by multi ws = do
  offset ← number_at ws
  members ← until_arrow member_of [] offset.1
  Some (multis.Gen by multi offset.0 members.0)

unfoldable pub multi_rest_at : List ℕ → By → ℕ → List (List ℕ) → Option MultiEvent
multi_rest_at w by multi ws =
    cond (bytes_eq w (codes "gen")) (gen_at by multi ws)
    (cond (bytes_eq w (codes "hold")) (Some (multis.Hold by multi))
    (cond (bytes_eq w (codes "unhold")) (Some (multis.Unhold by multi))
    (cond (bytes_eq w (codes "raise")) (number_at ws >>= λ n. Some (multis.Raise by multi n.0)) None)))

unfoldable pub multi_event_at : List (List ℕ) → List (List ℕ) → Option MultiEvent
multi_event_at names ws = do
  w ← word_at ws
  by ← by_at names w.1
  n ← number_at by.1
  multi ← full_multi n.0
  multi_rest_at w.0 by.0 multi n.1
