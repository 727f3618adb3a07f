-- Lists, place by place.
use Rattle.std.specs.Prelude.{◌≡◌, ℕ, ◌==◌, not, List, [], ◌∷◌, take, slice_get, Some}
use Rattle.std.specs.List.{filter}

-- what stands at each place has P, given what stands before it
abbrev pub EachPlace : {X : Type 0} → List X → (List X → X → Type 0) → Type 0
EachPlace {X} xs P = (p : ℕ) (x : X) → slice_get xs p ≡ Some x → P (take p xs) x

-- each number once, in the order of the first places
abbrev pub first_seen : List ℕ → List ℕ
first_seen [] = []
first_seen (x ∷ xs) = x ∷ filter (λ y. not (y == x)) (first_seen xs)
