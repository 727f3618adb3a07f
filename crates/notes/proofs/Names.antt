-- Lists of flags, each at the number of a name: which names are held, and which may be given.
use Rattle.std.proofs.Common.{◌≡◌, ℕ, zero, suc, ◌+◌, ◌<◌, ◌≤◌, ◌≢◌, ◌⊎◌, Bool, true, false, List, [], ◌∷◌, ◌++◌, length, get_or, set, replicate, refl, sym, ◌∙◌, ap, subst, inl, inr, ⊎_elim, get_or-set_same, get_or-set_other, arith}
use mathlib.Core.Option.{some, some-injective, some-ne-none}
use mathlib.Core.Logic.{dite}
use native.Mathlib.Decide.{dec_le, ℕ_discrete}
use lib.ListN.{get_elem?, length-replicate, get_or-replicate}

module _ {A : Type 0} where
  -- what stands at a place of a list with one more stood there before, or is the last
  pub at_end : (l : List A) (a b : A) (j : ℕ) → get_elem? (l ++ a ∷ []) j ≡ some b → (get_elem? l j ≡ some b) ⊎ ((j ≡ length l) × (a ≡ b))
  at_end [] a b zero e = inr (refl, some-injective a b e)
  at_end [] a b (suc j) e = absurd (some-ne-none b (sym e))
  at_end (x ∷ xs) a b zero e = inl e
  at_end (x ∷ xs) a b (suc j) e = ⊎_elim (λ h. inl h) (λ h. inr (ap suc h.0, h.1)) (at_end xs a b j e)

  pub past : (xs : List A) (k : ℕ) (d : A) → length xs ≤ k → get_or xs k d ≡ d
  past [] k d h = refl
  past (x ∷ xs) zero d h = absurd (omega arith)
  past (x ∷ xs) (suc k) d h = past xs k d (omega arith)

pub blank : (n k : ℕ) → get_or (replicate n false) k false ≡ false
blank n k = dite (dec_le n k) (λ h. past (replicate n false) k false (let e = length-replicate n false in omega arith)) (λ h. get_or-replicate n k false false (omega arith))

pub true_inside : (bs : List Bool) (k : ℕ) → get_or bs k false ≡ true → k < length bs
true_inside [] k e = absurd (cc)
true_inside (b ∷ bs) zero e = omega arith
true_inside (b ∷ bs) (suc k) e = let t = true_inside bs k e in omega arith

set_false : (l : List Bool) (n : ℕ) → get_or (set l n false) n false ≡ false
set_false [] n = refl
set_false (x ∷ xs) zero = refl
set_false (x ∷ xs) (suc n) = set_false xs n

-- a name that is given away is gone from both lists
pub still_mirrors : (a b : List Bool) (n : ℕ) → ((k : ℕ) → get_or a k false ≡ get_or b k false) → (k : ℕ) → get_or (set a n false) k false ≡ get_or (set b n false) k false
still_mirrors a b n same k = dite (ℕ_discrete k n)
    (λ (e : k ≡ n). let P : ℕ → Type 0 = λ z. get_or (set a n false) z false ≡ get_or (set b n false) z false in subst P (sym e) (set_false a n ∙ sym (set_false b n)))
    (λ ne. get_or-set_other a n k false false ne ∙ (same k ∙ sym (get_or-set_other b n k false false ne)))

pub still_true : (a : List Bool) (n k : ℕ) → get_or (set a n false) k false ≡ true → (k ≢ n) × (get_or a k false ≡ true)
still_true a n k h = dite (ℕ_discrete k n)
    (λ (e : k ≡ n). absurd (let P : ℕ → Type 0 = λ z. get_or (set a n false) z false ≡ true in let q = subst P e h in let b : false ≡ true = sym (set_false a n) ∙ q in cc))
    (λ ne. (ne, sym (get_or-set_other a n k false false ne) ∙ h))

trues_below : (n k : ℕ) → k < n → get_or (replicate n true) k false ≡ true
trues_below n k h = get_or-replicate n k true false h

trues_past : (n k : ℕ) → n ≤ k → get_or (replicate n true) k false ≡ false
trues_past n k h = past (replicate n true) k false (let e = length-replicate n true in omega arith)

-- the first names are set one by one
pub names_step : (l : List Bool) (i : ℕ) → i < length l → ((k : ℕ) → get_or l k false ≡ get_or (replicate i true) k false) → (k : ℕ) → get_or (set l i true) k false ≡ get_or (replicate (i + 1) true) k false
names_step l i inside same k = dite (ℕ_discrete k i)
    (λ (e : k ≡ i). let P : ℕ → Type 0 = λ z. get_or (set l i true) z false ≡ get_or (replicate (i + 1) true) z false in subst P (sym e) (get_or-set_same l i true false inside ∙ sym (trues_below (i + 1) i (omega arith))))
    (λ ne. get_or-set_other l i k true false ne ∙ (same k ∙ dite (dec_le (i + 1) k)
    (λ h. trues_past i k (omega arith) ∙ sym (trues_past (i + 1) k h))
    (λ h. trues_below i k (omega arith) ∙ sym (trues_below (i + 1) k (omega arith)))))

pub no_names : (k : ℕ) → get_or (replicate 64 false) k false ≡ get_or (replicate 0 true) k false
no_names k = blank 64 k
