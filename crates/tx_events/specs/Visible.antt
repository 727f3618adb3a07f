-- When an id counts as committed.
use Rattle.std.specs.Prelude.{ℕ, ◌==◌, ◌&&◌, ◌||◌, not, Bool, List}
use Rattle.std.specs.List.{list_any}
use Rattle.tx_events.specs.declared.event.Event.{Event}
use Rattle.tx_events.specs.Events.{is_commit_of}
use Rattle.tx_events.specs.Families.{top}
use Rattle.tx_events.specs.Running.{is_undone}

-- after these events, x is 1 or 2, or it is committed in the base, or its top has committed and no
-- savepoint round x was rolled back
abbrev pub is_visible : List ℕ → List Event → ℕ → Bool
is_visible committed h x =
    (x == 1) || (x == 2) || list_any (λ y. y == x) committed || (list_any (is_commit_of (top h x)) h && not (is_undone h x))
