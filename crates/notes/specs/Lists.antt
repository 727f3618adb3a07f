-- Lists that only grow, one at each place, and what a session knows of them that has seen a beginning of each.
use Rattle.std.specs.Prelude.{◌≡◌, ℕ, ◌==◌, List, [], ◌∷◌, ◌++◌, filter, slice_index_or, slice_set}

-- the list at a place
abbrev pub at : {E : Type 0} → List (List E) → ℕ → List E
at lists place = slice_index_or lists place []

module _ {E : Type 0} where
  -- the second list goes on from the first
  abbrev pub Begins : List E → List E → Type 0
  Begins xs ys = (rest : List E) × (xs ++ rest ≡ ys)

  -- the entries of a session
  abbrev pub own : (E → ℕ) → ℕ → List E → List E
  own session n xs = filter (λ e. session e == n) xs

  -- each list goes on from the one at its place in the first
  pub record Grows (lists more : List (List E)) : Type 0 where
    pub begins : (place : ℕ) → Begins (at lists place) (at more place)

  -- what was seen begins the real lists, and all entries of the session were seen
  pub record Knows (session : E → ℕ) (n : ℕ) (seen lists : List (List E)) : Type 0 where
    pub grows : Grows seen lists
    pub own : (place : ℕ) → own session n (at lists place) ≡ own session n (at seen place)

  -- the lists with one entry more at a place
  abbrev pub add : List (List E) → ℕ → E → List (List E)
  add lists place e = slice_set lists place (at lists place ++ e ∷ [])
