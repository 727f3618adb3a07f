-- Membership by recursion, and filters that agree on the members.
use Rattle.std.proofs.Common.{Bool, Contains, List, None, Option, Some, [], ap, append-nil, arith, cond, false, get_or, inl, inr, length, refl, reverse, subst, suc, sym, take, true, zero, ℕ, ⊎_elim, ◌++◌, ◌<◌, ◌||◌, ◌∙◌, ◌∷◌, ◌≡◌, ◌⊎◌, map}
use Rattle.std.proofs.Math.Bool.{or-true}
use Rattle.std.proofs.lemmas.List.{append_cancel_left, reverse-append, reverse-reverse}
use Rattle.std.proofs.lemmas.List.Elements.{filter-append}
use Rattle.std.specs.List.{AllByRecursion, cons_option, filter, filter_map, flat_map, list_any, slice_get}

module _ {A : Type 0} where
  abbrev pub Has : List A → A → Type 0
  Has [] x = ⊥
  Has (y ∷ ys) x = (y ≡ x) ⊎ Has ys x

  pub has_contains : (xs : List A) (x : A) → Has xs x → Contains xs x
  has_contains [] x h = absurd h
  has_contains (y ∷ ys) x h = ⊎_elim (λ (e : y ≡ x). (0, omega arith, e)) (λ t. let c = has_contains ys x t in (suc c.0, omega (arith, c.1), c.2)) h

  has_at : (xs : List A) (x : A) (k : ℕ) → k < length xs → get_or xs k x ≡ x → Has xs x
  has_at [] x k h e = absurd (omega arith)
  has_at (y ∷ ys) x zero h e = inl e
  has_at (y ∷ ys) x (suc k) h e = inr (has_at ys x k (omega arith) e)

  pub contains_has : (xs : List A) (x : A) → Contains xs x → Has xs x
  contains_has xs x c = has_at xs x c.0 c.1 c.2

  pub has_left : (xs ys : List A) (x : A) → Has xs x → Has (xs ++ ys) x
  has_left [] ys x h = absurd h
  has_left (z ∷ xs) ys x h = ⊎_elim inl (λ t. inr (has_left xs ys x t)) h

  pub has_right : (xs ys : List A) (x : A) → Has ys x → Has (xs ++ ys) x
  has_right [] ys x h = h
  has_right (z ∷ xs) ys x h = inr (has_right xs ys x h)

  pub has_cases : (xs ys : List A) (x : A) → Has (xs ++ ys) x → Has xs x ⊎ Has ys x
  has_cases [] ys x h = inr h
  has_cases (z ∷ xs) ys x h = ⊎_elim (λ e. inl (inl e)) (λ t. ⊎_elim (λ k. inl (inr k)) inr (has_cases xs ys x t)) h

  pub has_take : (n : ℕ) (xs : List A) (x : A) → Has (take n xs) x → Has xs x
  has_take zero xs x h = absurd h
  has_take (suc n) [] x h = absurd h
  has_take (suc n) (y ∷ ys) x h = ⊎_elim inl (λ t. inr (has_take n ys x t)) h

  pub all_at : (P : A → Type 0) (xs : List A) (x : A) → AllByRecursion P xs → Has xs x → P x
  all_at P [] x a h = absurd h
  all_at P (y ∷ ys) x a h = ⊎_elim (λ (e : y ≡ x). subst P e a.0) (λ t. all_at P ys x a.1 t) h

  pub all_from : (P : A → Type 0) (xs : List A) → ((x : A) → Has xs x → P x) → AllByRecursion P xs
  all_from P [] f = tt
  all_from P (x ∷ xs) f = (f x (inl refl), all_from P xs (λ y k. f y (inr k)))

  pub filter_agree_on : (p q : A → Bool) (xs : List A) → ((x : A) → Has xs x → p x ≡ q x) → filter p xs ≡ filter q xs
  filter_agree_on p q [] h = refl
  filter_agree_on p q (x ∷ xs) h =
      ap (λ b. cond b (x ∷ filter p xs) (filter p xs)) (h x (inl refl)) ∙ ap (λ (t : List A). cond (q x) (x ∷ t) t) (filter_agree_on p q xs (λ y k. h y (inr k)))

  pub filter_none_on : (p : A → Bool) (xs : List A) → ((x : A) → Has xs x → p x ≡ false) → filter p xs ≡ []
  filter_none_on p [] h = refl
  filter_none_on p (x ∷ xs) h = ap (λ b. cond b (x ∷ filter p xs) (filter p xs)) (h x (inl refl)) ∙ filter_none_on p xs (λ y k. h y (inr k))

  pub list_any_agree_on : (p q : A → Bool) (xs : List A) → ((x : A) → Has xs x → p x ≡ q x) → list_any p xs ≡ list_any q xs
  list_any_agree_on p q [] h = refl
  list_any_agree_on p q (x ∷ xs) h =
      ap (λ b. b || list_any p xs) (h x (inl refl)) ∙ ap (λ b. q x || b) (list_any_agree_on p q xs (λ y k. h y (inr k)))

  pub list_any_none_on : (p : A → Bool) (xs : List A) → ((x : A) → Has xs x → p x ≡ false) → list_any p xs ≡ false
  list_any_none_on p [] h = refl
  list_any_none_on p (x ∷ xs) h = ap (λ b. b || list_any p xs) (h x (inl refl)) ∙ list_any_none_on p xs (λ y k. h y (inr k))

  pub has_filter : (p : A → Bool) (xs : List A) (x : A) → Has (filter p xs) x → Has xs x × (p x ≡ true)
  has_filter p [] x h = absurd h
  has_filter p (y ∷ ys) x h =
      let step : (b : Bool) → p y ≡ b → Has (cond b (y ∷ filter p ys) (filter p ys)) x → Has (y ∷ ys) x × (p x ≡ true) = elim [
        | true ↦ λ e k. ⊎_elim (λ (q : y ≡ x). (inl q, subst (λ z. p z ≡ true) q e)) (λ t. let r = has_filter p ys x t in (inr r.0, r.1)) k
        | false ↦ λ e k. let r = has_filter p ys x k in (inr r.0, r.1)
      ] in
      step (p y) refl h

  pub filter_has : (p : A → Bool) (xs : List A) (x : A) → Has xs x → p x ≡ true → Has (filter p xs) x
  filter_has p [] x h e = absurd h
  filter_has p (y ∷ ys) x h e =
      ⊎_elim
      (λ (k : y ≡ x). let t : p y ≡ true = ap p k ∙ e in subst (λ b. Has (cond b (y ∷ filter p ys) (filter p ys)) x) (sym t) (inl k))
      (λ t. let r = filter_has p ys x t e in elim (p y) as (λ b. Has (cond b (y ∷ filter p ys) (filter p ys)) x) [ true ↦ inr r | false ↦ r ])
      h

  -- what holds of no items, and of one more at the end, holds of each list
  by_reverse : (P : List A → Type 0) → P [] → ((xs : List A) (x : A) → P xs → P (xs ++ x ∷ [])) → (xs : List A) → P (reverse xs)
  by_reverse P none more [] = none
  by_reverse P none more (x ∷ xs) = subst P (sym (reverse-append (x ∷ []) xs)) (more (reverse xs) x (by_reverse P none more xs))

  pub by_end : (P : List A → Type 0) → P [] → ((xs : List A) (x : A) → P xs → P (xs ++ x ∷ [])) → (xs : List A) → P xs
  by_end P none more xs = subst P (reverse-reverse xs) (by_reverse P none more (reverse xs))

module _ {A B : Type 0} where
  pub map_has : (f : A → B) (xs : List A) (x : A) → Has xs x → Has (map f xs) (f x)
  map_has f [] x k = absurd k
  map_has f (y ∷ ys) x k = ⊎_elim (λ (e : y ≡ x). inl (ap f e)) (λ t. inr (map_has f ys x t)) k

  pub has_map : (f : A → B) (xs : List A) (y : B) → Has (map f xs) y → (x : A) × Has xs x × (f x ≡ y)
  has_map f [] y k = absurd k
  has_map f (x ∷ xs) y k = ⊎_elim (λ (e : f x ≡ y). (x, inl refl, e)) (λ t. let r = has_map f xs y t in (r.0, inr r.1, r.2)) k

  pub has_filter_map : (f : A → Option B) (xs : List A) (y : B) → Has (filter_map f xs) y → (x : A) × Has xs x × (f x ≡ Some y)
  has_filter_map f [] y k = absurd k
  has_filter_map f (x ∷ xs) y k =
      let step : (o : Option B) → f x ≡ o → Has (cons_option o (filter_map f xs)) y → (z : A) × Has (x ∷ xs) z × (f z ≡ Some y) = elim [
        | None ↦ λ q h. let r = has_filter_map f xs y h in (r.0, inr r.1, r.2)
        | Some w ↦ λ q h. ⊎_elim (λ (v : w ≡ y). (x, inl refl, q ∙ ap (λ u. Some u) v)) (λ t. let r = has_filter_map f xs y t in (r.0, inr r.1, r.2)) h
      ] in
      step (f x) refl k

  pub has_flat_map : (f : A → List B) (xs : List A) (y : B) → Has (flat_map f xs) y → (x : A) × Has xs x × Has (f x) y
  has_flat_map f [] y k = absurd k
  has_flat_map f (x ∷ xs) y k = ⊎_elim (λ h. (x, inl refl, h)) (λ t. let r = has_flat_map f xs y t in (r.0, inr r.1, r.2)) (has_cases (f x) (flat_map f xs) y k)

module _ {A : Type 0} where
  pub has_place : (xs : List A) (x : A) → Has xs x → (p : ℕ) × (slice_get xs p ≡ Some x)
  has_place [] x k = absurd k
  has_place (y ∷ ys) x k = ⊎_elim (λ (e : y ≡ x). (0, ap (λ z. Some z) e)) (λ t. let r = has_place ys x t in (suc r.0, r.1)) k

  pub place_has : (xs : List A) (p : ℕ) (x : A) → slice_get xs p ≡ Some x → Has xs x
  place_has [] p x e = absurd cc
  place_has (y ∷ ys) zero x e = inl cc
  place_has (y ∷ ys) (suc p) x e = inr (place_has ys p x e)

  pub any_has : (p : A → Bool) (xs : List A) (x : A) → Has xs x → p x ≡ true → list_any p xs ≡ true
  any_has p [] x k e = absurd k
  any_has p (y ∷ ys) x k e =
      ⊎_elim (λ (q : y ≡ x). ap (λ b. b || list_any p ys) (ap p q ∙ e))
      (λ t. ap (λ b. p y || b) (any_has p ys x t e) ∙ or-true (p y)) k

  pub has_any : (p : A → Bool) (xs : List A) → list_any p xs ≡ true → (x : A) × Has xs x × (p x ≡ true)
  has_any p [] e = absurd cc
  has_any p (y ∷ ys) e =
      let step : (b : Bool) → p y ≡ b → (b || list_any p ys) ≡ true → (x : A) × Has (y ∷ ys) x × (p x ≡ true) = elim [
        | true ↦ λ q h. (y, inl refl, q)
        | false ↦ λ q h. let r = has_any p ys h in (r.0, inr r.1, r.2)
      ] in
      step (p y) refl e

  -- of the items that pass, none is left over
  pub none_passes : (p : A → Bool) (xs rest : List A) → filter p (xs ++ rest) ≡ filter p xs → (x : A) → Has rest x → p x ≡ true → ⊥
  none_passes p xs rest e x k t =
      let r : filter p rest ≡ [] = append_cancel_left (filter p xs) (filter p rest) [] (sym (filter-append p xs rest) ∙ e ∙ sym (append-nil (filter p xs))) in
      subst (λ (z : List A). Has z x) r (filter_has p rest x k t)
