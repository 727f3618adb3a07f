-- Lists that are merged, and what stands at a place of a list.
use Rattle.std.proofs.Common.{◌≡◌, ℕ, zero, suc, ◌<◌, ◌≤◌, ◌≢◌, ◌⊎◌, ◌||◌, Bool, true, false, List, [], ◌∷◌, length, get_or, set, if◌then◌else◌, refl, sym, ◌∙◌, ap, subst, inl, inr, ⊎_elim, le-ltb, lt-ltb, arith}
use mathlib.Core.Logic.{dite}
use native.Mathlib.Decide.{dec_le}
use Rattle.notes.specs.Lists.{at}
use Rattle.hall.specs.Told.{longer, longer_of, either_of}

module _ {A : Type 0} where
  pub set_swap : (l : List A) (i j : ℕ) (a b : A) → i ≢ j → set (set l i a) j b ≡ set (set l j b) i a
  set_swap [] i j a b ne = refl
  set_swap (x ∷ xs) zero zero a b ne = absurd (ne refl)
  set_swap (x ∷ xs) zero (suc j) a b ne = refl
  set_swap (x ∷ xs) (suc i) zero a b ne = refl
  set_swap (x ∷ xs) (suc i) (suc j) a b ne = λ k. x ∷ set_swap xs i j a b (λ e. ne (ap suc e)) k

  pub longer_cases : (xs ys : List A) → ((length xs < length ys) × (longer_of xs ys ≡ ys)) ⊎ ((length ys ≤ length xs) × (longer_of xs ys ≡ xs))
  longer_cases xs ys = dite (dec_le (length ys) (length xs))
      (λ h. inr (h, ap (λ b. if b then ys else xs) (le-ltb (length xs) (length ys) h)))
      (λ n. let l : length xs < length ys = omega arith in inl (l, ap (λ b. if b then ys else xs) (lt-ltb (length xs) (length ys) l)))

  none_of : (xs : List A) → length xs ≤ 0 → [] ≡ xs
  none_of [] h = refl
  none_of (x ∷ xs) h = absurd (omega arith)

  pub longer_at : (xs ys : List (List A)) (c : ℕ) → at (longer xs ys) c ≡ longer_of (at xs c) (at ys c)
  longer_at [] ys c = ⊎_elim (λ h. sym h.1) (λ h. sym (h.1 ∙ none_of (at ys c) h.0)) (longer_cases [] (at ys c))
  longer_at (x ∷ xs) [] c = ⊎_elim (λ h. absurd (let k = h.0 in omega arith)) (λ h. sym h.1) (longer_cases (at (x ∷ xs) c) [])
  longer_at (x ∷ xs) (y ∷ ys) zero = refl
  longer_at (x ∷ xs) (y ∷ ys) (suc c) = longer_at xs ys c

pub either_at : (xs ys : List Bool) (m : ℕ) → get_or (either_of xs ys) m false ≡ (get_or xs m false || get_or ys m false)
either_at [] ys m = refl
either_at (x ∷ xs) [] m = elim (get_or (x ∷ xs) m false) as (λ b. b ≡ (b || false)) [ true ↦ refl | false ↦ refl ]
either_at (x ∷ xs) (y ∷ ys) zero = refl
either_at (x ∷ xs) (y ∷ ys) (suc m) = either_at xs ys m

pub not_nil : {A : Type 0} (x : A) → [] ≡ x ∷ [] → ⊥
not_nil {A} x e = let P : List A → Type 0 = λ z. elim z [ [] ↦ Unit {0} | ◌∷◌ _ _ ↦ ⊥ ] in subst P e tt

pub one_of : (a b : Bool) → (a || b) ≡ true → (a ≡ true) ⊎ (b ≡ true)
one_of true b e = inl refl
one_of false b e = inr e

pub or_true : (a : Bool) → (a || true) ≡ true
or_true true = refl
or_true false = refl
