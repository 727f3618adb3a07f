-- Which ids are running after a history.
use Rattle.std.specs.Prelude.{ℕ, ◌&&◌, not, Bool, List}
use Rattle.std.specs.List.{filter, list_any}
use Rattle.tx_events.specs.declared.event.Event.{Event}
use Rattle.tx_events.specs.Events.{given, given_to, is_end_of, is_undo_of}
use Rattle.tx_events.specs.Families.{top, enclosing, is_top}

-- a savepoint of x was rolled back
abbrev pub is_undone : List Event → ℕ → Bool
is_undone h x = list_any (λ y. list_any (is_undo_of y) h) (enclosing h x)

-- the transaction of x has committed or aborted
abbrev pub is_ended : List Event → ℕ → Bool
is_ended h x = list_any (is_end_of (top h x)) h

-- x isn't closed yet
abbrev pub is_open : List Event → ℕ → Bool
is_open h x = not (is_ended h x) && not (is_undone h x)

-- the ids that are running after these events
abbrev pub running : List Event → List ℕ
running h = filter (is_open h) (given h)

abbrev pub running_tops : List Event → List ℕ
running_tops h = filter (is_top h) (running h)

-- the ids that the session has open
abbrev pub open_ids : ℕ → List Event → List ℕ
open_ids session h = filter (is_open h) (given_to session h)

-- the ids that were given and are closed
abbrev pub closed : List Event → List ℕ
closed h = filter (λ x. not (is_open h x)) (given h)
