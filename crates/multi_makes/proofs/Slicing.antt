-- Parts of a list, by place.
use Rattle.std.proofs.Common.{◌≡◌, ℕ, zero, suc, ◌+◌, ◌-◌, ◌<◌, ◌≤◌, List, [], ◌∷◌, Some, length, take, drop, refl, sym, ap, subst, arith}
use Rattle.std.specs.List.{slice_get, slice_range}

get_drop : {A : Type 0} (xs : List A) (a k : ℕ) (x : A) → slice_get (drop a xs) k ≡ Some x → slice_get xs (a + k) ≡ Some x
get_drop xs zero k x q = let e : 0 + k ≡ k = omega arith in subst (λ z. slice_get xs z ≡ Some x) (sym e) q
get_drop [] (suc a) k x q = absurd cc
get_drop (y ∷ xs) (suc a) k x q = let e : suc a + k ≡ suc (a + k) = omega arith in subst (λ z. slice_get (y ∷ xs) z ≡ Some x) (sym e) (get_drop xs a k x q)

get_take : {A : Type 0} (xs : List A) (n k : ℕ) (x : A) → slice_get (take n xs) k ≡ Some x → (k < n) × (slice_get xs k ≡ Some x)
get_take xs zero k x q = absurd cc
get_take [] (suc n) k x q = absurd cc
get_take (y ∷ xs) (suc n) zero x q = (omega arith, q)
get_take (y ∷ xs) (suc n) (suc k) x q = let r = get_take xs n k x q in let lt = r.0 in (omega arith, r.1)

take_get : {A : Type 0} (xs : List A) (n k : ℕ) (x : A) → k < n → slice_get xs k ≡ Some x → slice_get (take n xs) k ≡ Some x
take_get xs zero k x lt q = absurd (omega arith)
take_get [] (suc n) k x lt q = absurd cc
take_get (y ∷ xs) (suc n) zero x lt q = q
take_get (y ∷ xs) (suc n) (suc k) x lt q = take_get xs n k x (omega arith) q

drop_get : {A : Type 0} (xs : List A) (a k : ℕ) (x : A) → slice_get xs (a + k) ≡ Some x → slice_get (drop a xs) k ≡ Some x
drop_get xs zero k x q = let e : 0 + k ≡ k = omega arith in subst (λ z. slice_get xs z ≡ Some x) e q
drop_get [] (suc a) k x q = absurd cc
drop_get (y ∷ xs) (suc a) k x q = let e : suc a + k ≡ suc (a + k) = omega arith in drop_get xs a k x (subst (λ z. slice_get (y ∷ xs) z ≡ Some x) e q)

-- what stands in a part stands in the list
pub range_get : {A : Type 0} (xs : List A) (a b k : ℕ) (x : A) → slice_get (slice_range xs a b) k ≡ Some x → (k < b - a) × (slice_get xs (a + k) ≡ Some x)
range_get xs a b k x q = let r = get_take (drop a xs) (b - a) k x q in (r.0, get_drop xs a k x r.1)

-- and the other way round
pub get_range : {A : Type 0} (xs : List A) (a b k : ℕ) (x : A) → k < b - a → slice_get xs (a + k) ≡ Some x → slice_get (slice_range xs a b) k ≡ Some x
get_range xs a b k x lt q = take_get (drop a xs) (b - a) k x lt (drop_get xs a k x q)

pub range_length : {A : Type 0} (xs : List A) (a b : ℕ) → a ≤ b → b ≤ length xs → length (slice_range xs a b) ≡ b - a
range_length xs a b le within = by_drop xs a b le within
  where
    take_length : {A : Type 0} (xs : List A) (n : ℕ) → n ≤ length xs → length (take n xs) ≡ n
    take_length xs zero le = refl
    take_length [] (suc n) le = absurd (omega arith)
    take_length (x ∷ xs) (suc n) le = ap suc (take_length xs n (omega arith))

    by_drop : {A : Type 0} (xs : List A) (a b : ℕ) → a ≤ b → b ≤ length xs → length (take (b - a) (drop a xs)) ≡ b - a
    by_drop xs zero b le within = let e : b ≡ b - 0 = omega arith in subst (λ z. length (take z xs) ≡ z) e (take_length xs b within)
    by_drop [] (suc a) b le within = absurd (omega arith)
    by_drop (x ∷ xs) (suc a) zero le within = absurd (omega arith)
    by_drop (x ∷ xs) (suc a) (suc b) le within = let e : b - a ≡ suc b - suc a = omega arith in subst (λ z. length (take z (drop a xs)) ≡ z) e (by_drop xs a b (omega arith) (omega arith))
