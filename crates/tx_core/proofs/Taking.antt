-- What stands at a place of the front of a list.
use Rattle.std.proofs.Common.{List, Some, [], ap, arith, drop, refl, subst, suc, sym, take, zero, ℕ, ◌<◌, ◌∙◌, ◌∷◌, ◌≡◌, ◌≤◌}
use Rattle.std.proofs.lemmas.List.{take-append-drop}
use Rattle.std.specs.List.{slice_get}
use Rattle.tx_events.proofs.PlaceLemmas.{slice_get-grows, take-grows}

module _ {A : Type 0} where
  pub get_in_take : (p q : ℕ) (xs : List A) (x : A) → q < p → slice_get xs q ≡ Some x → slice_get (take p xs) q ≡ Some x
  get_in_take zero q xs x h e = absurd (omega arith)
  get_in_take (suc p) q [] x h e = absurd cc
  get_in_take (suc p) zero (y ∷ xs) x h e = e
  get_in_take (suc p) (suc q) (y ∷ xs) x h e = get_in_take p q xs x (omega arith) e

  pub get_of_take : (p q : ℕ) (xs : List A) (x : A) → slice_get (take p xs) q ≡ Some x → slice_get xs q ≡ Some x
  get_of_take p q xs x e = subst (λ (t : List A). slice_get t q ≡ Some x) (take-append-drop p xs) (slice_get-grows (take p xs) (drop p xs) x q e)

  pub taken_twice : (p q : ℕ) (xs : List A) (x : A) → slice_get (take p xs) q ≡ Some x → take q (take p xs) ≡ take q xs
  taken_twice p q xs x e = sym (take-grows (take p xs) (drop p xs) x q e) ∙ ap (λ (t : List A). take q t) (take-append-drop p xs)

  pub take_in : (p q : ℕ) (xs : List A) → p ≤ q → take p (take q xs) ≡ take p xs
  take_in zero q xs le = refl
  take_in (suc p) zero xs le = absurd (omega arith)
  take_in (suc p) (suc q) [] le = refl
  take_in (suc p) (suc q) (x ∷ xs) le = ap (λ (t : List A). x ∷ t) (take_in p q xs (omega arith))
