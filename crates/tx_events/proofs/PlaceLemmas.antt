use Rattle.tx_events.proofs.Membership.{by_end}
use Rattle.std.proofs.Common.{◌≡◌, ℕ, suc, zero, ◌-◌, ◌<◌, List, [], ◌∷◌, ◌++◌, length, take, Some, refl, ap, sym, ◌∙◌, arith, inl, inr, ⊎_elim, subst, ◌⊎◌}
use Rattle.std.proofs.Math.Seq.{take-append_seam}
use Rattle.std.specs.List.{slice_get}
use Rattle.tx_events.specs.Places.{EachPlace}

sub-zero : (p : ℕ) → p - 0 ≡ p
sub-zero p = omega arith

suc-sub-suc : (p n : ℕ) → suc p - suc n ≡ p - n
suc-sub-suc p n = omega arith

-- what stands at a place of a list with one more item
pub slice_get-push : {X : Type 0} (xs : List X) (x y : X) (p : ℕ) → slice_get (xs ++ x ∷ []) p ≡ Some y → ((p < length xs) × (slice_get xs p ≡ Some y)) ⊎ ((p ≡ length xs) × (x ≡ y))
slice_get-push [] x y zero e = inr (refl, cc)
slice_get-push [] x y (suc p) e = absurd cc
slice_get-push (z ∷ xs) x y zero e = inl (omega arith, e)
slice_get-push (z ∷ xs) x y (suc p) e =
    ⊎_elim (λ h. inl (omega (arith, h.0), h.1)) (λ h. inr (omega (arith, h.0), h.1)) (slice_get-push xs x y p e)

-- what stands at a place stays there
pub slice_get-grows : {X : Type 0} (xs ys : List X) (y : X) (p : ℕ) → slice_get xs p ≡ Some y → slice_get (xs ++ ys) p ≡ Some y
slice_get-grows [] ys y p e = absurd cc
slice_get-grows (z ∷ xs) ys y zero e = e
slice_get-grows (z ∷ xs) ys y (suc p) e = slice_get-grows xs ys y p e

pub slice_get-append_cases : {X : Type 0} (xs ys : List X) (y : X) (p : ℕ) → slice_get (xs ++ ys) p ≡ Some y → (slice_get xs p ≡ Some y) ⊎ (slice_get ys (p - length xs) ≡ Some y)
slice_get-append_cases [] ys y p e = inr (rw (sub-zero p) e)
slice_get-append_cases (z ∷ xs) ys y zero e = inl e
slice_get-append_cases (z ∷ xs) ys y (suc p) e =
    ⊎_elim inl (λ h. inr (rw (suc-sub-suc p (length xs)) h)) (slice_get-append_cases xs ys y p e)

-- and so does what stands before it
pub take-grows : {X : Type 0} (xs ys : List X) (y : X) (p : ℕ) → slice_get xs p ≡ Some y → take p (xs ++ ys) ≡ take p xs
take-grows [] ys y p e = absurd cc
take-grows (z ∷ xs) ys y zero e = refl
take-grows (z ∷ xs) ys y (suc p) e = ap (λ t. z ∷ t) (take-grows xs ys y p e)

pub last_at : {X : Type 0} (xs : List X) (x : X) → slice_get (xs ++ x ∷ []) (length xs) ≡ Some x
last_at [] x = refl
last_at (y ∷ xs) x = last_at xs x

pub each_place_push : {X : Type 0} (P : List X → X → Type 0) (xs : List X) (x : X) → EachPlace xs P → P xs x → EachPlace (xs ++ x ∷ []) P
each_place_push P xs x each last p y e =
    ⊎_elim
    (λ h. subst (λ t. P t y) (sym (take-grows xs (x ∷ []) y p h.1)) (each p y h.1))
    (λ h. subst (λ z. P (take p (xs ++ x ∷ [])) z) h.1 (subst (λ t. P t x) (sym (ap (λ q. take q (xs ++ x ∷ [])) h.0 ∙ take-append_seam xs (x ∷ []))) last))
    (slice_get-push xs x y p e)

pub each_place_none : {X : Type 0} (P : List X → X → Type 0) → EachPlace [] P
each_place_none P p x e = absurd cc

-- the beginning of a list whose places do
pub each_place_start : {X : Type 0} (P : List X → X → Type 0) (xs ys : List X) → EachPlace (xs ++ ys) P → EachPlace xs P
each_place_start P xs ys each p y e = subst (λ t. P t y) (take-grows xs ys y p e) (each p y (slice_get-grows xs ys y p e))

pub each_place_last : {X : Type 0} (P : List X → X → Type 0) (xs : List X) (x : X) → EachPlace (xs ++ x ∷ []) P → P xs x
each_place_last P xs x each = subst (λ t. P t x) (take-append_seam xs (x ∷ [])) (each (length xs) x (last_at xs x))

-- what holds of no items, and after one more that meets the rule of its place, holds of each list whose places do
pub by_place : {X : Type 0} (P : List X → X → Type 0) (Q : List X → Type 0) → Q [] → ((xs : List X) (x : X) → Q xs → P xs x → Q (xs ++ x ∷ [])) → (xs : List X) → EachPlace xs P → Q xs
by_place P Q none step = by_end (λ xs. EachPlace xs P → Q xs) (λ _. none) (λ xs x before each. step xs x (before (each_place_start P xs (x ∷ []) each)) (each_place_last P xs x each))
