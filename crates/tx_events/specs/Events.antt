-- What single events say.
use Rattle.std.specs.Prelude.{ℕ, ◌==◌, ◌&&◌, Bool, false, List, Option, Some, None, nat_eq}
use Rattle.std.specs.List.{filter, filter_map, starts_with}
use Rattle.tx_events.specs.declared.event.By.{By}
use Rattle.tx_events.specs.declared.event.Event.{Event}
use Rattle.tx_events.specs.declared.event.Event.TheVariants as events

-- whose event it is
abbrev pub by_of : Event → By
by_of (events.Id by id) = by
by_of (events.Sub by parent id) = by
by_of (events.Undo by id) = by
by_of (events.Commit by top) = by
by_of (events.Abort by top) = by
by_of (events.Snap name by) = by
by_of (events.SnapDrop name by) = by
by_of (events.Oldest by oldest) = by
by_of (events.Ask by id) = by

abbrev pub is_of : ℕ → Event → Bool
is_of session e = (by_of e).session == session

abbrev pub same_by : By → By → Bool
same_by a b = (a.session == b.session) && (a.command == b.command)

-- the events of one command, in order
abbrev pub events_of : By → List Event → List Event
events_of by h = filter (λ e. same_by (by_of e) by) h

-- the id that the event gives
abbrev pub given_by : Event → Option ℕ
given_by (events.Id by id) = Some id
given_by (events.Sub by parent id) = Some id
given_by _ = None

-- the ids that were given, in order
abbrev pub given : List Event → List ℕ
given h = filter_map given_by h

-- the ids that a session was given
abbrev pub given_to : ℕ → List Event → List ℕ
given_to session h = given (filter (is_of session) h)

abbrev pub is_commit_of : ℕ → Event → Bool
is_commit_of x (events.Commit by top) = top == x
is_commit_of x _ = false

-- the commit or the abort of x
abbrev pub is_end_of : ℕ → Event → Bool
is_end_of x (events.Commit by top) = top == x
is_end_of x (events.Abort by top) = top == x
is_end_of x _ = false

abbrev pub is_undo_of : ℕ → Event → Bool
is_undo_of x (events.Undo by id) = id == x
is_undo_of x _ = false

-- the oldest id that the event announces
abbrev pub announced_by : Event → Option ℕ
announced_by (events.Oldest by oldest) = Some oldest
announced_by _ = None

abbrev pub same_name : List ℕ → List ℕ → Bool
same_name a b = starts_with nat_eq a b && starts_with nat_eq b a
