-- What the word of an event says that names one id that was given before.
use Rattle.std.specs.Prelude.{ℕ, List, codes, cond, Option, Some, None}
use Rattle.std.specs.Str.{bytes_eq}
use Rattle.tx_events.specs.declared.event.By.{By}
use Rattle.tx_events.specs.declared.event.Event.{Event}
use Rattle.tx_events.specs.declared.event.Event.TheVariants as events

unfoldable pub plain_event : List ℕ → By → ℕ → Option Event
plain_event word by id =
    cond (bytes_eq word (codes "undo")) (Some (events.Undo by id))
    (cond (bytes_eq word (codes "commit")) (Some (events.Commit by id))
    (cond (bytes_eq word (codes "abort")) (Some (events.Abort by id))
    (cond (bytes_eq word (codes "oldest")) (Some (events.Oldest by id))
    (cond (bytes_eq word (codes "ask")) (Some (events.Ask by id)) None))))
