-- A binary search of ascending ids.
use Rattle.std.proofs.lemmas.Bool.{cases_lt}
use Rattle.std.proofs.Common.{◌≡◌, ℕ, suc, zero, ◌<◌, ◌≤◌, List, [], ◌∷◌, length, refl, ap, sym, ◌∙◌, arith, Bool, true, false, ◌==◌, ◌||◌, ⊎_elim, get_or, eqb-true}
use Rattle.std.proofs.lemmas.List.Sorted.{searched}
use Rattle.std.specs.List.{AllByRecursion}
use Rattle.std.specs.List.Sorted.{IsBinarySearchResult}
use Rattle.std.specs.Ordering.{nat_cmp}
use Rattle.std.specs.Prelude.{is_ok, Result, Ok, Err, MatchResult}
use Rattle.std.proofs.Math.Bool.{or-true}
use Rattle.tx_events.proofs.ListSteps.{eqb-refl}
use Rattle.tx_events.specs.IdLists.{has, Ascending}

all_at : (P : ℕ → Type 0) (xs : List ℕ) (k : ℕ) → AllByRecursion P xs → k < length xs → P (get_or xs k 0)
all_at P [] k a l = absurd (omega arith)
all_at P (x ∷ xs) zero a l = a.0
all_at P (x ∷ xs) (suc k) a l = all_at P xs k a.1 (omega arith)

rises : (xs : List ℕ) → Ascending xs → (i j : ℕ) → i ≤ j → j < length xs → get_or xs i 0 ≤ get_or xs j 0
rises [] a i j l m = absurd (omega arith)
rises (x ∷ xs) a zero zero l m = omega arith
rises (x ∷ xs) a zero (suc j) l m = let f : x < get_or xs j 0 = all_at (λ y. x < y) xs j a.0 (omega arith) in omega arith
rises (x ∷ xs) a (suc i) zero l m = absurd (omega arith)
rises (x ∷ xs) a (suc i) (suc j) l m = rises xs a.1 i j (omega arith) (omega arith)

has_at : (xs : List ℕ) (x k : ℕ) → k < length xs → get_or xs k 0 ≡ x → has xs x ≡ true
has_at [] x k l e = absurd (omega arith)
has_at (y ∷ xs) x zero l e = ap (λ b. b || has xs x) (ap (λ z. x == z) e ∙ eqb-refl x)
has_at (y ∷ xs) x (suc k) l e = ap (λ b. (x == y) || b) (has_at xs x k (omega arith) e) ∙ or-true (x == y)

has_none : (xs : List ℕ) (x : ℕ) → ((k : ℕ) → k < length xs → get_or xs k 0 ≡ x → ⊥) → has xs x ≡ false
has_none [] x f = refl
has_none (y ∷ xs) x f = split (x == y) refl (has_none xs x (λ k l e. f (suc k) (omega arith) e))
  where
    split : (b : Bool) → (x == y) ≡ b → has xs x ≡ false → (b || has xs x) ≡ false
    split true e g = absurd (f 0 (omega arith) (sym (eqb-true x y e)))
    split false e g = g

-- what was found is in the list
pub listed : (xs : List ℕ) (x : ℕ) (r : Result ℕ ℕ) → IsBinarySearchResult (λ y. nat_cmp y x) xs r → Ascending xs → is_ok r ≡ has xs x
listed xs x r h a = one r (searched xs x r h (rises xs a))
  where
    one : (r : Result ℕ ℕ) → MatchResult r (λ i. (i < length xs) × (get_or xs i 0 ≡ x)) (λ i. (i ≤ length xs) × ((k : ℕ) → k < i → get_or xs k 0 < x) × ((k : ℕ) → i ≤ k → k < length xs → x < get_or xs k 0)) → is_ok r ≡ has xs x
    one (Ok i) m = sym (has_at xs x i m.0 m.1)
    one (Err i) m = sym (has_none xs x (λ k l e. ⊎_elim (λ b. let f : get_or xs k 0 < x = m.1 k b in omega arith) (λ b. let f : x < get_or xs k 0 = m.2 k b l in omega arith) (cases_lt k i)))
