-- A sorted list is the ascending list of the same items.
use Rattle.std.proofs.Common.{◌≡◌, ℕ, suc, ◌<◌, ◌≤◌, List, [], ◌∷◌, length, refl, ap, sym, ◌∙◌, arith, Bool, true, false, ◌==◌, cond, subst, ◌+◌, nat_lt, add-one, Less, eqb-true, ltb-true, ltb-false}
use Rattle.std.proofs.lemmas.Bool.{false≢true}
use Rattle.std.proofs.lemmas.List.Sorted.{sum_by-IsPermutation}
use Rattle.std.proofs.lemmas.List.Sums.{sum_by-cons}
use Rattle.std.specs.Cmp.{nat_cmp_is}
use Rattle.std.specs.List.{AllByRecursion, slice_index_or, sum_by}
use Rattle.std.specs.List.Sorted.{IsPermutation, IsSorted}
use Rattle.std.specs.Ordering.{nat_cmp, is_lt}
use Rattle.tx_events.proofs.ListSteps.{all_weaker, eqb-refl}
use Rattle.tx_events.specs.IdLists.{Ascending}

abbrev pub Rising : List ℕ → Type 0
Rising [] = Unit {0}
Rising (x ∷ xs) = AllByRecursion (λ y. x ≤ y) xs × Rising xs

not_lt : (a b : ℕ) → is_lt (nat_cmp b a) ≡ false → a ≤ b
not_lt a b f = split (nat_lt b a) refl
  where
    split : (c : Bool) → nat_lt b a ≡ c → a ≤ b
    split true e = absurd (false≢true (sym f ∙ sym (ap is_lt (nat_cmp_is b a Less (ltb-true b a e)))))
    split false e = ltb-false b a e

abbrev pub Steps : List ℕ → Type 0
Steps xs = (k : ℕ) (d : ℕ) → suc k < length xs → is_lt (nat_cmp (slice_index_or xs (suc k) d) (slice_index_or xs k d)) ≡ false

rising_steps : (xs : List ℕ) → Steps xs → Rising xs
rising_steps [] up = tt
rising_steps (x ∷ []) up = (tt, tt)
rising_steps (x ∷ y ∷ xs) up =
    let r : Rising (y ∷ xs) = rising_steps (y ∷ xs) (λ k d m. up (suc k) d (omega arith)) in
    let e : x ≤ y = not_lt x y (up 0 x (omega arith)) in
    ((e, all_weaker (λ z. y ≤ z) (λ z. x ≤ z) (λ z g. omega arith) xs r.0), r)

rising_from : (xs : List ℕ) → IsSorted nat_cmp xs → Rising xs
rising_from xs up = rising_steps xs (λ k d l. subst (λ j. is_lt (nat_cmp (slice_index_or xs j d) (slice_index_or xs k d)) ≡ false) (add-one k) (up k d (omega arith) (omega arith)))

low_bound : (b z : ℕ) (l : List ℕ) → AllByRecursion (λ w. b ≤ w) l → 1 ≤ sum_by (λ w. cond (w == z) 1 0) l → b ≤ z
low_bound b z [] a s = absurd (omega arith)
low_bound b z (w ∷ l) a s = split (w == z) refl (low_bound b z l a.1) (subst (λ n. 1 ≤ n) (sum_by-cons (λ w. cond (w == z) 1 0) w l) s)
  where
    split : (c : Bool) → (w == z) ≡ c → (1 ≤ sum_by (λ w. cond (w == z) 1 0) l → b ≤ z) → 1 ≤ cond c 1 0 + sum_by (λ w. cond (w == z) 1 0) l → b ≤ z
    split true e i n = subst (λ v. b ≤ v) (eqb-true w z e) a.0
    split false e i n = i (omega arith)

counted : (z : ℕ) (l : List ℕ) → 1 ≤ sum_by (λ w. cond (w == z) 1 0) (z ∷ l)
counted z l = subst (λ n. 1 ≤ n) (sym (sum_by-cons (λ w. cond (w == z) 1 0) z l ∙ ap (λ b. cond b 1 0 + sum_by (λ w. cond (w == z) 1 0) l) (eqb-refl z))) (omega arith)

same_from : (xs ys : List ℕ) → Rising xs → Rising ys → ((f : ℕ → ℕ) → sum_by f ys ≡ sum_by f xs) → xs ≡ ys
same_from [] [] r s p = refl
same_from [] (y ∷ ys) r s p = let e : 1 + sum_by (λ (z : ℕ). 1) ys ≡ 0 = sym (sum_by-cons (λ (z : ℕ). 1) y ys) ∙ p (λ z. 1) in absurd (omega arith)
same_from (x ∷ xs) [] r s p = let e : 0 ≡ 1 + sum_by (λ (z : ℕ). 1) xs = p (λ z. 1) ∙ sum_by-cons (λ (z : ℕ). 1) x xs in absurd (omega arith)
same_from (x ∷ xs) (y ∷ ys) r s p =
    let a : x ≤ y = low_bound x y (x ∷ xs) (omega arith, r.0) (subst (λ n. 1 ≤ n) (p (λ w. cond (w == y) 1 0)) (counted y ys)) in
    let b : y ≤ x = low_bound y x (y ∷ ys) (omega arith, s.0) (subst (λ n. 1 ≤ n) (sym (p (λ w. cond (w == x) 1 0))) (counted x xs)) in
    let e : x ≡ y = omega arith in
    cons_same e (same_from xs ys r.1 s.1 (λ f. rest (f y) (f x) (sum_by f ys) (sum_by f xs) (ap f (sym e)) (sym (sum_by-cons f y ys) ∙ p f ∙ sum_by-cons f x xs)))
  where
    cons_same : x ≡ y → xs ≡ ys → x ∷ xs ≡ y ∷ ys
    cons_same e f = cc

    rest : (m n u v : ℕ) → m ≡ n → m + u ≡ n + v → u ≡ v
    rest m n u v e f = omega arith

ascending_rising : (xs : List ℕ) → Ascending xs → Rising xs
ascending_rising [] a = tt
ascending_rising (x ∷ xs) a = (all_weaker (λ y. x < y) (λ y. x ≤ y) (λ y l. omega arith) xs a.0, ascending_rising xs a.1)

-- a list that was sorted is the ascending list with the same items
pub sorted_same : (xs ys : List ℕ) → IsPermutation xs ys → IsSorted nat_cmp ys → Ascending xs → ys ≡ xs
sorted_same xs ys p s a = same_from ys xs (rising_from ys s) (ascending_rising xs a) (λ f. sym (sum_by-IsPermutation f xs ys p))
