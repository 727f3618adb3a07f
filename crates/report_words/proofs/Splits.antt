-- A line's words.
use Rattle.std.proofs.Common.{◌≡◌, ℕ, List, [], ◌∷◌, Bool, true, false, not, refl, ap, take, drop, one-add, ◌≤◌, length, Some, arith}
use Rattle.report_words.specs.Reading.{word_at}
use Rattle.std.specs.List.{slice_split, prefix_len}
use Rattle.report_words.specs.Words.{behind, is_space}

step : (x : ℕ) (xs : List ℕ) (b : Bool) → is_space x ≡ b → slice_split is_space xs ≡ take (prefix_len (λ c. not (is_space c)) xs) xs ∷ behind (drop (prefix_len (λ c. not (is_space c)) xs) xs) → slice_split is_space (x ∷ xs) ≡ take (prefix_len (λ c. not (is_space c)) (x ∷ xs)) (x ∷ xs) ∷ behind (drop (prefix_len (λ c. not (is_space c)) (x ∷ xs)) (x ∷ xs))
step x xs true e h = rw e refl
step x xs false e h = rw (e, one-add, h) refl

-- the first word, and the words behind it
pub split_first_word : (xs : List ℕ) → slice_split is_space xs ≡ take (prefix_len (λ c. not (is_space c)) xs) xs ∷ behind (drop (prefix_len (λ c. not (is_space c)) xs) xs)
split_first_word [] = refl
split_first_word (x ∷ xs) = step x xs (is_space x) refl (split_first_word xs)

pub word_splits : (xs tail w rest : List ℕ) (n : ℕ) → 1 ≤ length xs → tail ≡ drop 1 xs → n ≡ prefix_len (λ c. not (is_space c)) tail → w ≡ take n tail → rest ≡ drop n tail → word_at (behind xs) ≡ Some (w, behind rest)
word_splits [] tail w rest n l t m f g = absurd (omega arith)
word_splits (x ∷ xs) tail w rest n l t m f g = rw (f, g, m, t) (ap word_at (split_first_word xs))
