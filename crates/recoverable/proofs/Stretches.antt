-- Beginnings of lists, and what they hold.
use Rattle.std.proofs.Common.{◌≡◌, ℕ, zero, suc, ◌-◌, ◌<◌, ◌≤◌, inl, inr, ⊎_elim, List, [], ◌∷◌, ◌++◌, length, take, map, Some, refl, sym, ap, subst, arith, Option, None, ◌∙◌}
use Rattle.std.specs.List.{cons_option, filter_map, flat_map, slice_get}
use Rattle.tx_events.proofs.Membership.{Has, has_left, has_right}
use Rattle.notes.specs.Lists.{Begins}

module _ {A : Type 0} where
  -- a longer beginning has what a shorter one has
  pub has_longer : (s t : ℕ) (xs : List A) (x : A) → s ≤ t → Has (take s xs) x → Has (take t xs) x
  has_longer zero t xs x le h = absurd h
  has_longer (suc s) zero xs x le h = absurd (omega arith)
  has_longer (suc s) (suc t) [] x le h = absurd h
  has_longer (suc s) (suc t) (y ∷ ys) x le h = ⊎_elim inl (λ k. inr (has_longer s t ys x (omega arith) k)) h

  -- the n-th item is among the first m
  pub has_taken : (n m : ℕ) (xs : List A) (x : A) → n < m → slice_get xs n ≡ Some x → Has (take m xs) x
  has_taken n zero xs x lt e = absurd (omega arith)
  has_taken n (suc m) [] x lt e = absurd cc
  has_taken zero (suc m) (y ∷ ys) x lt e = inl cc
  has_taken (suc n) (suc m) (y ∷ ys) x lt e = inr (has_taken n m ys x (omega arith) e)

  -- what stands at a place of a list lies within it
  pub get_inside : (xs : List A) (n : ℕ) (x : A) → slice_get xs n ≡ Some x → n < length xs
  get_inside [] n x e = absurd cc
  get_inside (y ∷ ys) zero x e = omega arith
  get_inside (y ∷ ys) (suc n) x e = let a = get_inside ys n x e in omega arith

  -- what is among the first m stands at a place before m
  pub taken_place : (m : ℕ) (xs : List A) (x : A) → Has (take m xs) x → (n : ℕ) × (n < m) × (slice_get xs n ≡ Some x)
  taken_place zero xs x h = absurd h
  taken_place (suc m) [] x h = absurd h
  taken_place (suc m) (y ∷ ys) x h = ⊎_elim (λ (e : y ≡ x). (0, omega arith, ap (λ z. Some z) e)) (λ k. let r = taken_place m ys x k in (suc r.0, omega (arith, r.1), r.2)) h

  -- what stands in a list before a place that a beginning of it has, stands in the beginning
  pub get_in_beginning : (xs ys : List A) (m j : ℕ) (a b : A) → Begins xs ys → slice_get xs m ≡ Some a → j < m → slice_get ys j ≡ Some b → slice_get xs j ≡ Some b
  get_in_beginning xs ys m j a b begins at lt e = front xs begins.0 m j a b at lt (subst (λ (t : List A). slice_get t j ≡ Some b) (sym begins.1) e)
    where
      front : (xs rest : List A) (m j : ℕ) (a b : A) → slice_get xs m ≡ Some a → j < m → slice_get (xs ++ rest) j ≡ Some b → slice_get xs j ≡ Some b
      front [] rest m j a b at lt e = absurd cc
      front (x ∷ xs) rest zero j a b at lt e = absurd (omega arith)
      front (x ∷ xs) rest (suc m) zero a b at lt e = e
      front (x ∷ xs) rest (suc m) (suc j) a b at lt e = front xs rest m j a b at (omega arith) e

  pub take_past : (xs ys : List A) (m : ℕ) → length xs ≤ m → take m (xs ++ ys) ≡ xs ++ take (m - length xs) ys
  take_past [] ys m le = let e : m - 0 ≡ m = omega arith in rw e refl
  take_past (x ∷ xs) ys zero le = absurd (omega arith)
  take_past (x ∷ xs) ys (suc m) le = let e : suc m - suc (length xs) ≡ m - length xs = omega arith in rw e (ap (λ (t : List A). x ∷ t) (take_past xs ys m (omega arith)))

  pub has_within : (xs ys : List A) (m : ℕ) (x : A) → m ≤ length xs → Has (take m (xs ++ ys)) x → Has xs x
  has_within xs ys zero x le h = absurd h
  has_within [] ys (suc m) x le h = absurd (omega arith)
  has_within (y ∷ xs) ys (suc m) x le h = ⊎_elim inl (λ k. inr (has_within xs ys m x (omega arith) k)) h

module _ {A B : Type 0} where
  pub flat_map_has : (f : A → List B) (xs : List A) (x : A) (y : B) → Has xs x → Has (f x) y → Has (flat_map f xs) y
  flat_map_has f [] x y h k = absurd h
  flat_map_has f (z ∷ xs) x y h k = ⊎_elim (λ (e : z ≡ x). has_left (f z) (flat_map f xs) y (subst (λ t. Has (f t) y) (sym e) k)) (λ t. has_right (f z) (flat_map f xs) y (flat_map_has f xs x y t k)) h

  pub get_map : (f : A → B) (xs : List A) (n : ℕ) (x : A) → slice_get xs n ≡ Some x → slice_get (map f xs) n ≡ Some (f x)
  get_map f [] n x e = absurd cc
  get_map f (y ∷ ys) zero x e = let q : y ≡ x = cc in ap (λ z. Some (f z)) q
  get_map f (y ∷ ys) (suc n) x e = get_map f ys n x e

  pub map_get : (f : A → B) (xs : List A) (n : ℕ) (y : B) → slice_get (map f xs) n ≡ Some y → (x : A) × (slice_get xs n ≡ Some x) × (f x ≡ y)
  map_get f [] n y e = absurd cc
  map_get f (x ∷ xs) zero y e = (x, refl, cc)
  map_get f (x ∷ xs) (suc n) y e = map_get f xs n y e

  pub filter_map_has : (f : A → Option B) (xs : List A) (x : A) (y : B) → Has xs x → f x ≡ Some y → Has (filter_map f xs) y
  filter_map_has f [] x y h e = absurd h
  filter_map_has f (z ∷ xs) x y h e =
      ⊎_elim
      (λ (q : z ≡ x). subst (λ o. Has (cons_option o (filter_map f xs)) y) (sym (ap f q ∙ e)) (inl refl))
      (λ t. let r = filter_map_has f xs x y t e in elim (f z) as (λ o. Has (cons_option o (filter_map f xs)) y) [ None ↦ r | Some w ↦ inr r ])
      h
