-- The least and the greatest of lists.
use Rattle.std.proofs.Common.{◌≡◌, ℕ, ◌<◌, ◌≤◌, ◌⊎◌, min, max, not, ◌&&◌, Bool, true, false, cond, List, [], ◌∷◌, refl, sym, ap, ◌∙◌, inl, inr, ⊎_elim, arith}
use Rattle.std.specs.List.{filter, fold, AllByRecursion}
use Rattle.std.proofs.lemmas.Bool.{cases_lt}
use Rattle.tx_events.proofs.Membership.{Has, all_at}

pub fold_min_start : (a : ℕ) (xs : List ℕ) → fold min a xs ≤ a
fold_min_start a [] = omega arith
fold_min_start a (x ∷ xs) = let h = fold_min_start (min a x) xs in omega arith

pub fold_min_has : (a : ℕ) (xs : List ℕ) (x : ℕ) → Has xs x → fold min a xs ≤ x
fold_min_has a [] x k = absurd k
fold_min_has a (y ∷ xs) x k = ⊎_elim (λ (e : y ≡ x). let h = fold_min_start (min a y) xs in omega arith) (λ t. fold_min_has (min a y) xs x t) k

pub fold_min_above : (a b : ℕ) (xs : List ℕ) → b ≤ a → ((x : ℕ) → Has xs x → b ≤ x) → b ≤ fold min a xs
fold_min_above a b [] h each = h
fold_min_above a b (x ∷ xs) h each = let k = each x (inl refl) in fold_min_above (min a x) b xs (omega arith) (λ y t. each y (inr t))

pub fold_max_start : (a : ℕ) (xs : List ℕ) → a ≤ fold max a xs
fold_max_start a [] = omega arith
fold_max_start a (x ∷ xs) = let h = fold_max_start (max a x) xs in omega arith

pub fold_max_has : (a : ℕ) (xs : List ℕ) (x : ℕ) → Has xs x → x ≤ fold max a xs
fold_max_has a [] x k = absurd k
fold_max_has a (y ∷ xs) x k = ⊎_elim (λ (e : y ≡ x). let h = fold_max_start (max a y) xs in omega arith) (λ t. fold_max_has (max a y) xs x t) k

pub fold_max_upto : (a b : ℕ) (xs : List ℕ) → a ≤ b → ((x : ℕ) → Has xs x → x ≤ b) → fold max a xs ≤ b
fold_max_upto a b [] h each = h
fold_max_upto a b (x ∷ xs) h each = let k = each x (inl refl) in fold_max_upto (max a x) b xs (omega arith) (λ y t. each y (inr t))

max_one : (a b : ℕ) → (max a b ≡ a) ⊎ (max a b ≡ b)
max_one a b = ⊎_elim (λ (h : a < b). inr (omega arith)) (λ (h : b ≤ a). inl (omega arith)) (cases_lt a b)

pub fold_max_one : (a : ℕ) (xs : List ℕ) → (fold max a xs ≡ a) ⊎ Has xs (fold max a xs)
fold_max_one a [] = inl refl
fold_max_one a (x ∷ xs) =
    ⊎_elim
    (λ (e : fold max (max a x) xs ≡ max a x). ⊎_elim (λ f. inl (e ∙ f)) (λ f. inr (inl (sym (e ∙ f)))) (max_one a x))
    (λ t. inr (inr t)) (fold_max_one (max a x) xs)

-- the greatest of a list that has it, or that begins past it
pub fold_max_is : (xs : List ℕ) (z m : ℕ) → AllByRecursion (λ x. x ≤ m) xs → (m ≤ z) ⊎ Has xs m → fold max z xs ≡ max z m
fold_max_is xs z m a b =
    let upto : fold max z xs ≤ max z m = fold_max_upto z (max z m) xs (omega arith) (λ x k. let l = all_at (λ x. x ≤ m) xs x a k in omega arith) in
    let from = fold_max_start z xs in
    ⊎_elim (λ (l : m ≤ z). omega arith) (λ k. let l = fold_max_has z xs m k in omega arith) b

max_in_turn : (z x y : ℕ) → max (max z x) y ≡ max (max z y) x
max_in_turn z x y = omega arith

fold_max_out : (xs : List ℕ) (z x : ℕ) → fold max (max z x) xs ≡ max (fold max z xs) x
fold_max_out [] z x = refl
fold_max_out (y ∷ xs) z x = ap (λ m. fold max m xs) (max_in_turn z x y) ∙ fold_max_out xs (max z y) x

-- of what fails p and q together, first what fails p, and then what fails q alone
pub fold_max_split : (p q : ℕ → Bool) (xs : List ℕ) (z : ℕ) →
    fold max z (filter (λ x. not (p x && q x)) xs) ≡ fold max (fold max z (filter (λ x. not (p x)) xs)) (filter (λ x. not (q x)) (filter p xs))
fold_max_split p q [] z = refl
fold_max_split p q (x ∷ xs) z =
    elim (p x) as (λ b. fold max z (cond (not (b && q x)) (x ∷ filter (λ x. not (p x && q x)) xs) (filter (λ x. not (p x && q x)) xs)) ≡ fold max (fold max z (cond (not b) (x ∷ filter (λ x. not (p x)) xs) (filter (λ x. not (p x)) xs))) (filter (λ x. not (q x)) (cond b (x ∷ filter p xs) (filter p xs)))) [
      | true ↦
          elim (q x) as (λ c. fold max z (cond (not c) (x ∷ filter (λ x. not (p x && q x)) xs) (filter (λ x. not (p x && q x)) xs)) ≡ fold max (fold max z (filter (λ x. not (p x)) xs)) (cond (not c) (x ∷ filter (λ x. not (q x)) (filter p xs)) (filter (λ x. not (q x)) (filter p xs)))) [
            | true ↦ fold_max_split p q xs z
            | false ↦ fold_max_split p q xs (max z x) ∙ ap (λ m. fold max m (filter (λ x. not (q x)) (filter p xs))) (fold_max_out (filter (λ x. not (p x)) xs) z x)
          ]
      | false ↦ fold_max_split p q xs (max z x)
    ]
