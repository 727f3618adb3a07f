-- A word's pieces.
use Rattle.std.proofs.Common.{◌≡◌, ℕ, List, [], ◌∷◌, Bool, true, false, not, refl, take, drop, one-add}
use Rattle.std.specs.List.{prefix_len}
use Rattle.report_words.specs.Members.{is_colon, pieces, beyond}

step : (x : ℕ) (xs : List ℕ) (b : Bool) → is_colon x ≡ b → pieces xs ≡ take (prefix_len (λ c. not (is_colon c)) xs) xs ∷ beyond (drop (prefix_len (λ c. not (is_colon c)) xs) xs) → pieces (x ∷ xs) ≡ take (prefix_len (λ c. not (is_colon c)) (x ∷ xs)) (x ∷ xs) ∷ beyond (drop (prefix_len (λ c. not (is_colon c)) (x ∷ xs)) (x ∷ xs))
step x xs true e h = rw e refl
step x xs false e h = rw (e, one-add, h) refl

-- the first piece, and the pieces behind it
pub split_first_piece : (xs : List ℕ) → pieces xs ≡ take (prefix_len (λ c. not (is_colon c)) xs) xs ∷ beyond (drop (prefix_len (λ c. not (is_colon c)) xs) xs)
split_first_piece [] = refl
split_first_piece (x ∷ xs) = step x xs (is_colon x) refl (split_first_piece xs)
