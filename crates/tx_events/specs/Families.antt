-- The subtransaction tree: which id was given below which.
use Rattle.std.specs.Prelude.{ℕ, ◌-◌, ◌==◌, Bool, List, [], ◌∷◌, reverse, length, take, cond, Some, unwrap_or}
use Rattle.std.specs.List.{last_or}
use Rattle.tx_events.specs.declared.event.Event.{Event}
use Rattle.tx_events.specs.declared.event.Event.TheVariants as events

-- x, its parent, the parent of that, and so on. The events go from the newest to the oldest, since an id's
-- parent was given before it
abbrev pub line_up : List Event → ℕ → List ℕ
line_up [] x = x ∷ []
line_up (events.Sub by parent id ∷ older) x = cond (id == x) (x ∷ line_up older parent) (line_up older x)
line_up (e ∷ older) x = line_up older x

-- x and its ancestors, from x up to the top
abbrev pub lineage : List Event → ℕ → List ℕ
lineage h x = line_up (reverse h) x

-- the topmost of them
abbrev pub top : List Event → ℕ → ℕ
top h x = unwrap_or (last_or (Some x) (lineage h x)) x

-- x and its ancestors without the top
abbrev pub enclosing : List Event → ℕ → List ℕ
enclosing h x = take (length (lineage h x) - 1) (lineage h x)

abbrev pub is_top : List Event → ℕ → Bool
is_top h x = top h x == x
