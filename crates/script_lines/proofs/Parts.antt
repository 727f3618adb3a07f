-- The parts into which bytes cut a list, one after the other.
use Rattle.std.proofs.Common.{◌≡◌, ℕ, List, [], ◌∷◌, Bool, true, false, not, refl, take, drop, one-add}
use Rattle.std.specs.List.{prefix_len, slice_split}

-- the parts behind the first one
abbrev pub parts_behind : (ℕ → Bool) → List ℕ → List (List ℕ)
parts_behind p [] = []
parts_behind p (b ∷ bytes) = slice_split p bytes

abbrev to_cut : (ℕ → Bool) → List ℕ → ℕ
to_cut p xs = prefix_len (λ c. not (p c)) xs

step : (p : ℕ → Bool) (x : ℕ) (xs : List ℕ) (b : Bool) → p x ≡ b → slice_split p xs ≡ take (to_cut p xs) xs ∷ parts_behind p (drop (to_cut p xs) xs) → slice_split p (x ∷ xs) ≡ take (to_cut p (x ∷ xs)) (x ∷ xs) ∷ parts_behind p (drop (to_cut p (x ∷ xs)) (x ∷ xs))
step p x xs true e h = rw e refl
step p x xs false e h = rw (e, one-add, h) refl

-- the first part
pub first_part : (p : ℕ → Bool) (xs : List ℕ) → slice_split p xs ≡ take (prefix_len (λ c. not (p c)) xs) xs ∷ parts_behind p (drop (prefix_len (λ c. not (p c)) xs) xs)
first_part p [] = refl
first_part p (x ∷ xs) = step p x xs (p x) refl (first_part p xs)
