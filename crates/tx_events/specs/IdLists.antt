-- Lists of ids.
use Rattle.std.specs.Prelude.{ℕ, ◌==◌, ◌<◌, Bool, List, [], ◌∷◌}
use Rattle.std.specs.List.{list_any, AllByRecursion}

-- x is in the list
abbrev pub has : List ℕ → ℕ → Bool
has xs x = list_any (λ y. x == y) xs

-- each item is below those after it
abbrev pub Ascending : List ℕ → Type 0
Ascending [] = Unit {0}
Ascending (x ∷ xs) = AllByRecursion (λ y. x < y) xs × Ascending xs
