-- One event more is counted.
use Rattle.std.proofs.Common.{◌≡◌, ℕ, zero, suc, ◌+◌, ◌<◌, ◌≤◌, List, [], ◌∷◌, ◌++◌, Some, refl, sym, ap, ◌∙◌, inl, inr, ◌⊎◌, ⊎_elim, arith, length, length-append, take}
use Rattle.std.specs.List.{slice_get}
use Rattle.tx_events.specs.declared.event.Event.{Event}
use Rattle.tx_events.specs.Events.{by_of}
use Rattle.tx_events.specs.Running.{open_ids}
use Rattle.tx_events.proofs.Membership.{Has}
use Rattle.history_places.specs.Opens.{AreOpenCounts}

module _ {A : Type 0} where
  push_cases : (xs : List A) (x : A) (p : ℕ) (y : A) → slice_get (xs ++ x ∷ []) p ≡ Some y → ((p < length xs) × (slice_get xs p ≡ Some y)) ⊎ ((p ≡ length xs) × (x ≡ y))
  push_cases [] x zero y e = inr (refl, cc)
  push_cases [] x (suc p) y e = absurd cc
  push_cases (z ∷ xs) x zero y e = inl (omega arith, e)
  push_cases (z ∷ xs) x (suc p) y e =
      ⊎_elim
      (λ (u : (p < length xs) × (slice_get xs p ≡ Some y)). inl (omega (arith, u.0), u.1))
      (λ (u : (p ≡ length xs) × (x ≡ y)). inr (ap suc u.0, u.1))
      (push_cases xs x p y e)

  front : (n : ℕ) (xs ys : List A) → n ≤ length xs → take n (xs ++ ys) ≡ take n xs
  front zero xs ys l = refl
  front (suc n) [] ys l = absurd (omega arith)
  front (suc n) (x ∷ xs) ys l = ap (λ (t : List A). x ∷ t) (front n xs ys (omega arith))

  whole : (xs : List A) (x : A) → take (suc (length xs)) (xs ++ x ∷ []) ≡ xs ++ x ∷ []
  whole [] x = refl
  whole (y ∷ xs) x = ap (λ (t : List A). y ∷ t) (whole xs x)

-- the counts of a history with an event more
pub counted_push : (h : List Event) (e : Event) (counts : List ℕ) (n : ℕ) → AreOpenCounts h counts → n ≡ length (open_ids (by_of e).session (h ++ e ∷ [])) → AreOpenCounts (h ++ e ∷ []) (counts ++ n ∷ [])
counted_push h e counts n a is = record {
  size = length-append counts (n ∷ []) ∙ ap (λ k. k + 1) a.size ∙ sym (length-append h (e ∷ []));
  each = λ p f m at its. ⊎_elim
      (λ (u : (p < length h) × (slice_get h p ≡ Some f)). ⊎_elim
      (λ (v : (p < length counts) × (slice_get counts p ≡ Some m)).
      let l = u.0 in
      a.each p f m u.1 v.1 ∙ ap (λ (t : List Event). length (open_ids (by_of f).session t)) (sym (front (p + 1) h (e ∷ []) (omega arith))))
      (λ (v : (p ≡ length counts) × (n ≡ m)). let l = u.0 in let z = v.0 in let s = a.size in absurd (omega arith))
      (push_cases counts n p m its))
      (λ (u : (p ≡ length h) × (e ≡ f)). ⊎_elim
      (λ (v : (p < length counts) × (slice_get counts p ≡ Some m)). let l = v.0 in let z = u.0 in let s = a.size in absurd (omega arith))
      (λ (v : (p ≡ length counts) × (n ≡ m)).
      let z : p + 1 ≡ suc (length h) = let y = u.0 in omega arith in
      sym v.1 ∙ is ∙ ap (λ (x : Event). length (open_ids (by_of x).session (h ++ e ∷ []))) u.1
      ∙ ap (λ (t : List Event). length (open_ids (by_of f).session t)) (sym (whole h e))
      ∙ ap (λ k. length (open_ids (by_of f).session (take k (h ++ e ∷ [])))) (sym z))
      (push_cases counts n p m its))
      (push_cases h e p f at);
}

pub none_counted : AreOpenCounts [] []
none_counted = record { size = refl; each = λ p f m at its. absurd cc }

-- what stands at a place is there
pub has_there : {A : Type 0} (xs : List A) (k : ℕ) (x : A) → slice_get xs k ≡ Some x → Has xs x
has_there [] k x e = absurd cc
has_there (y ∷ xs) zero x e = inl cc
has_there (y ∷ xs) (suc k) x e = inr (has_there xs k x e)
