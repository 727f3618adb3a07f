-- What holds of the parts of a list.
use Rattle.std.proofs.Common.{◌≡◌, ◌≢◌, ◌⊎◌, ℕ, zero, suc, ◌+◌, ◌<◌, List, [], ◌∷◌, ◌++◌, Some, refl, sym, ap, subst, ◌∙◌, arith, ⊎_elim, inl, inr, get_or, length, set, take}
use Rattle.std.proofs.lemmas.List.{take_more}
use Rattle.std.proofs.lemmas.List.Elements.{All-append, All-cons, All-nil}
use Rattle.std.specs.List.{All, AllByRecursion, slice_get}

pub all_more : {X : Type 0} (P : X → Type 0) (xs : List X) (i : ℕ) (x : X) → i < length xs → x ≡ get_or xs i x → All P (take i xs) → P x → All P (take (i + 1) xs)
all_more P xs i x l e a p = subst (All P) (sym (take_more xs i x l ∙ ap (λ y. take i xs ++ y ∷ []) (sym e))) (All-append P (take i xs) (x ∷ []) a (All-cons P x [] p (All-nil P)))

pub all_front : {X : Type 0} (P : X → Type 0) (xs ys : List X) → AllByRecursion P (xs ++ ys) → AllByRecursion P xs × AllByRecursion P ys
all_front P [] ys a = (tt, a)
all_front P (x ∷ xs) ys a = let b = all_front P xs ys a.1 in ((a.0, b.0), b.1)

-- what stands in a list with one item replaced
pub set_cases : {X : Type 0} (xs : List X) (n k : ℕ) (x y : X) → slice_get (set xs n x) k ≡ Some y → ((k ≡ n) × (x ≡ y)) ⊎ ((k ≢ n) × (slice_get xs k ≡ Some y))
set_cases [] n k x y e = absurd cc
set_cases (z ∷ xs) zero zero x y e = inl (refl, cc)
set_cases (z ∷ xs) zero (suc k) x y e = inr ((λ q. absurd (omega arith)), e)
set_cases (z ∷ xs) (suc n) zero x y e = inr ((λ q. absurd (omega arith)), e)
set_cases (z ∷ xs) (suc n) (suc k) x y e =
    ⊎_elim (λ a. inl (ap suc a.0, a.1)) (λ a. inr ((λ q. a.0 (omega arith)), a.1)) (set_cases xs n k x y e)
