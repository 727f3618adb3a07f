-- What a search among ascending numbers finds.
use Rattle.std.proofs.Common.{◌≡◌, Equal, Greater, Less, ℕ, suc, ◌<◌, ◌≤◌, ◌==◌, ◌||◌, nat_lt, cond, Bool, true, false, List, [], ◌∷◌, length, get_or, refl, ap, sym, ◌∙◌, ⊎_elim, arith, eqb-true}
use Rattle.std.specs.Prelude.{is_ok, Result, Ok, Err, MatchResult}
use Rattle.std.specs.List.{list_any}
use Rattle.std.specs.List.Sorted.{IsBinarySearchResult, IsNonDecreasing}
use Rattle.std.specs.Ordering.{is_eq, nat_cmp}
use Rattle.std.proofs.lemmas.Bool.{cases_lt, false≢true, ltb-true}
use Rattle.std.proofs.lemmas.List.Folds.{list_any_at}
use Rattle.std.proofs.lemmas.List.Sorted.{searched}
use Rattle.tx_events.proofs.ListSteps.{eqb-refl}

same_test : (x y : ℕ) → is_eq (nat_cmp x y) ≡ (x == y)
same_test x y = step (nat_lt x y) (x == y) refl refl
  where
    step : (l e : Bool) → nat_lt x y ≡ l → (x == y) ≡ e → is_eq (cond l Less (cond e Equal Greater)) ≡ e
    step true true lt eq = absurd (let a : x < y = ltb-true x y lt in let b : x ≡ y = eqb-true x y eq in omega arith)
    step true false lt eq = refl
    step false true lt eq = refl
    step false false lt eq = refl

apart : (x y : ℕ) → (x ≡ y → ⊥) → (x == y) ≡ false
apart x y f = step (x == y) refl
  where
    step : (b : Bool) → (x == y) ≡ b → b ≡ false
    step true e = absurd (f (eqb-true x y e))
    step false e = refl

back : (x y : ℕ) → (x == y) ≡ (y == x)
back x y = step (x == y) (y == x) refl refl
  where
    step : (a b : Bool) → (x == y) ≡ a → (y == x) ≡ b → a ≡ b
    step true true e f = refl
    step false false e f = refl
    step true false e f = absurd (false≢true (sym f ∙ ap (λ z. y == z) (eqb-true x y e) ∙ eqb-refl y))
    step false true e f = absurd (false≢true (sym e ∙ ap (λ z. x == z) (eqb-true y x f) ∙ eqb-refl x))

any_none : (p : ℕ → Bool) (xs : List ℕ) → ((k : ℕ) → k < length xs → p (get_or xs k 0) ≡ false) → list_any p xs ≡ false
any_none p [] f = refl
any_none p (y ∷ xs) f = ap (λ b. b || list_any p xs) (f 0 (omega arith)) ∙ any_none p xs (λ k l. f (suc k) (omega arith))

any_same : (p q : ℕ → Bool) (xs : List ℕ) → ((y : ℕ) → p y ≡ q y) → list_any p xs ≡ list_any q xs
any_same p q [] f = refl
any_same p q (y ∷ xs) f = ap (λ b. b || list_any p xs) (f y) ∙ ap (λ b. q y || b) (any_same p q xs f)

-- a look-up of x by order is one by equality
pub by_equal : (x : ℕ) (xs : List ℕ) → list_any (λ y. is_eq (nat_cmp x y)) xs ≡ list_any (λ y. y == x) xs
by_equal x xs = any_same (λ y. is_eq (nat_cmp x y)) (λ y. y == x) xs (λ y. same_test x y ∙ back x y)

-- what was found is there
pub found : (xs : List ℕ) (x : ℕ) (r : Result ℕ ℕ) → IsBinarySearchResult (λ y. nat_cmp y x) xs r → IsNonDecreasing xs → is_ok r ≡ list_any (λ y. is_eq (nat_cmp x y)) xs
found xs x r h up = one r (searched xs x r h (λ i j l m. up i j 0 l m))
  where
    one : (r : Result ℕ ℕ) → MatchResult r (λ i. (i < length xs) × (get_or xs i 0 ≡ x)) (λ i. (i ≤ length xs) × ((k : ℕ) → k < i → get_or xs k 0 < x) × ((k : ℕ) → i ≤ k → k < length xs → x < get_or xs k 0)) → is_ok r ≡ list_any (λ y. is_eq (nat_cmp x y)) xs
    one (Ok i) m = sym (list_any_at (λ y. is_eq (nat_cmp x y)) xs i 0 m.0 (same_test x (get_or xs i 0) ∙ ap (λ z. x == z) m.1 ∙ eqb-refl x))
    one (Err i) m = sym (any_none (λ y. is_eq (nat_cmp x y)) xs (λ k l. same_test x (get_or xs k 0) ∙ apart x (get_or xs k 0) (λ e. ⊎_elim (λ b. let f : get_or xs k 0 < x = m.1 k b in omega arith) (λ b. let f : x < get_or xs k 0 = m.2 k b l in omega arith) (cases_lt k i))))
