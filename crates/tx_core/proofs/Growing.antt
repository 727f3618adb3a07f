-- What stays of a list that grows, and parts of the invariant that stay while the lists do.
use Rattle.std.proofs.Common.{Contains, List, Option, Some, [], ap, length, refl, subst, sym, take, ℕ, ⊎_elim, ◌++◌, ◌<◌, ◌∙◌, ◌∷◌, ◌≡◌}
use Rattle.std.proofs.Math.Seq.{take-append_seam}
use Rattle.std.proofs.lemmas.Grind.{flat_map-append}
use Rattle.std.proofs.lemmas.List.Elements.{Contains-append_left, filter_map-append}
use Rattle.std.specs.List.{filter_map, flat_map, slice_get}
use mathlib.Core.Logic.{dite}
use native.Mathlib.Decide.{ℕ_discrete}
use Rattle.tx_events.proofs.PlaceLemmas.{slice_get-grows, slice_get-push, take-grows}
use Rattle.notes.proofs.Growing.{at_else, at_here, begins_same, grows_add}
use Rattle.notes.specs.Lists.{Begins, Grows, add, at}
use Rattle.tx_core.specs.Lists.{IsLasting, Upheld}

module _ {A : Type 0} where
  pub contains_begins : (xs ys : List A) (x : A) → Begins xs ys → Contains xs x → Contains ys x
  contains_begins xs ys x b h = subst (λ (t : List A). Contains t x) b.1 (Contains-append_left xs b.0 x h)

  pub slice_get_begins : (xs ys : List A) (p : ℕ) (x : A) → Begins xs ys → slice_get xs p ≡ Some x → slice_get ys p ≡ Some x
  slice_get_begins xs ys p x b h = subst (λ (t : List A). slice_get t p ≡ Some x) b.1 (slice_get-grows xs b.0 x p h)

  pub take_begins : (xs ys : List A) (p : ℕ) (x : A) → Begins xs ys → slice_get xs p ≡ Some x → take p ys ≡ take p xs
  take_begins xs ys p x b h = ap (λ (t : List A). take p t) (sym b.1) ∙ take-grows xs b.0 x p h

module _ {A B : Type 0} where
  pub begins_filter_map : (f : A → Option B) (xs ys : List A) → Begins xs ys → Begins (filter_map f xs) (filter_map f ys)
  begins_filter_map f xs ys b = (filter_map f b.0, sym (filter_map-append f xs b.0) ∙ ap (λ (t : List A). filter_map f t) b.1)

  pub begins_flat_map : (f : A → List B) (xs ys : List A) → Begins xs ys → Begins (flat_map f xs) (flat_map f ys)
  begins_flat_map f xs ys b = (flat_map f b.0, sym (flat_map-append f xs b.0) ∙ ap (λ (t : List A). flat_map f t) b.1)

module _ {E : Type 0} where
  -- an entry that has what it needs of the seen lists keeps the part
  pub upheld_add : (Need : List (List E) → ℕ → List E → E → Type 0) → IsLasting Need → (seen lists : List (List E)) (lock : ℕ) (e : E) → lock < length lists → Grows seen lists → at seen lock ≡ at lists lock → Upheld Need lists → Need seen lock (at seen lock) e → Upheld Need (add lists lock e)
  upheld_add Need lasting seen lists lock e inside sees whole old need = record {
    each = λ other p f g.
        let grown = grows_add lists lock e inside in
        let now : Need (add lists lock e) lock (at lists lock) e = lasting.stays lists (add lists lock e) lock (at lists lock) e grown (subst (λ (t : List E). Need lists lock t e) whole (lasting.stays seen lists lock (at seen lock) e sees need)) in
        let kept : slice_get (at lists other) p ≡ Some f → Need (add lists lock e) other (take p (at (add lists lock e) other)) f
        = λ h. subst (λ (t : List E). Need (add lists lock e) other t f) (sym (take_begins (at lists other) (at (add lists lock e) other) p f (grown.begins other) h)) (lasting.stays lists (add lists lock e) other (take p (at lists other)) f grown (old.each other p f h)) in
        dite (ℕ_discrete other lock)
        (λ (q : other ≡ lock).
        let here : at (add lists lock e) other ≡ at lists lock ++ e ∷ [] = ap (λ z. at (add lists lock e) z) q ∙ at_here lists lock e inside in
        ⊎_elim
        (λ (h : (p < length (at lists lock)) × (slice_get (at lists lock) p ≡ Some f)). kept (subst (λ z. slice_get (at lists z) p ≡ Some f) (sym q) h.1))
        (λ (h : (p ≡ length (at lists lock)) × (e ≡ f)).
        subst (λ (t : E). Need (add lists lock e) other (take p (at (add lists lock e) other)) t) h.1
        (subst (λ z. Need (add lists lock e) z (take p (at (add lists lock e) z)) e) (sym q)
        (subst (λ (t : List E). Need (add lists lock e) lock t e) (sym (ap (λ (t : List E). take p t) (at_here lists lock e inside) ∙ ap (λ z. take z (at lists lock ++ e ∷ [])) h.0 ∙ take-append_seam (at lists lock) (e ∷ []))) now)))
        (slice_get-push (at lists lock) e f p (subst (λ (t : List E). slice_get t p ≡ Some f) here g)))
        (λ n. kept (subst (λ (t : List E). slice_get t p ≡ Some f) (at_else lists lock other e n) g));
  }

  -- so an entry of a kind that the part doesn't name, of which it asks nothing, keeps it
  pub other_kept : (Need : List (List E) → ℕ → List E → E → Type 0) (lists : List (List E)) (lock : ℕ) (e : E) → IsLasting Need → lock < length lists → Need lists lock (at lists lock) e → Upheld Need lists → Upheld Need (add lists lock e)
  other_kept Need lists lock e lasting inside none old =
      upheld_add Need lasting lists lists lock e inside (record { begins = λ other. begins_same (at lists other) }) refl old none
