-- Savepoints and families, by id.
use Rattle.std.specs.Prelude.{ℕ, ◌==◌, Bool, List}
use Rattle.std.specs.List.{filter, list_any}
use Rattle.tx_events.specs.declared.event.Event.{Event}
use Rattle.tx_events.specs.Families.{top, enclosing}
use Rattle.tx_events.specs.Running.{running}

-- x was given in the savepoint of id: id is x or an ancestor of it, and no top
abbrev pub is_inside : List Event → ℕ → ℕ → Bool
is_inside h id x = list_any (λ y. id == y) (enclosing h x)

-- the running ids of a top, itself among them
abbrev pub family : List Event → ℕ → List ℕ
family h t = filter (λ x. top h x == t) (running h)
