-- Names that differ from one another.
use Rattle.tx_events.proofs.ListSteps.{all_push}
use Rattle.tx_events.proofs.Names.{same_name_refl, same_name_equal}
use Rattle.std.proofs.Common.{◌≡◌, ℕ, List, [], ◌∷◌, ◌++◌, refl, sym, ap, ◌∙◌, zero, suc, Bool, true, false, Some}
use Rattle.std.proofs.lemmas.Bool.{false≢true}
use Rattle.std.specs.List.{AllByRecursion, IsDistinct, slice_get}
use Rattle.tx_events.specs.Events.{same_name}

differ : (a b : List ℕ) → same_name a b ≡ false → a ≡ b → ⊥
differ a b e f = false≢true (sym e ∙ ap (same_name a) (sym f) ∙ same_name_refl a)

not_among : (a : List ℕ) (xs : List (List ℕ)) (i : ℕ) → AllByRecursion (λ y. same_name a y ≡ false) xs → slice_get xs i ≡ Some a → ⊥
not_among a [] i h e = absurd cc
not_among a (x ∷ xs) zero h e = let same : a ≡ x = cc in differ a x h.0 same
not_among a (x ∷ xs) (suc i) h e = not_among a xs i h.1 e

-- a name stands at one place
pub one_place : (xs : List (List ℕ)) (a : List ℕ) (i j : ℕ) → IsDistinct same_name xs → slice_get xs i ≡ Some a → slice_get xs j ≡ Some a → i ≡ j
unfolding IsDistinct
one_place [] a i j d e f = absurd cc
one_place (x ∷ xs) a zero zero d e f = refl
one_place (x ∷ xs) a zero (suc j) d e f = let same : x ≡ a = cc in absurd (not_among x xs j d.0 (f ∙ ap Some (sym same)))
one_place (x ∷ xs) a (suc i) zero d e f = let same : x ≡ a = cc in absurd (not_among x xs i d.0 (e ∙ ap Some (sym same)))
one_place (x ∷ xs) a (suc i) (suc j) d e f = ap suc (one_place xs a i j d.1 e f)

is_not : (x a : List ℕ) (b : Bool) → same_name x a ≡ b → (x ≡ a → ⊥) → same_name x a ≡ false
is_not x a true e n = absurd (n (same_name_equal x a e))
is_not x a false e n = e

-- one more name, which none has
pub distinct_push : (xs : List (List ℕ)) (a : List ℕ) → IsDistinct same_name xs → ((i : ℕ) → slice_get xs i ≡ Some a → ⊥) → IsDistinct same_name (xs ++ a ∷ [])
unfolding IsDistinct
distinct_push [] a d n = (tt, tt)
distinct_push (x ∷ xs) a d n =
    (all_push (λ z. (same_name x) z ≡ false) xs a d.0 (is_not x a (same_name x a) refl (λ e. n 0 (ap Some e))), distinct_push xs a d.1 (λ i. n (suc i)))
