-- A sum over a list is that of the sums over the items of each key.
use Rattle.std.proofs.Common.{Bool, List, [], ap, arith, cond, false, refl, true, zero, suc, ℕ, ⊎_elim, ◌+◌, ◌<◌, ◌==◌, ◌≡◌, ◌≤◌, ◌∙◌, ◌∷◌}
use Rattle.std.specs.List.{AllByRecursion, filter, sum_by}
use Rattle.std.proofs.lemmas.List.Sums.{sum_by-cons}
use Rattle.tx_events.proofs.ListSteps.{above_not, below_not, eqb-refl, le_or_over}

-- g 0 + g 1 + .. up to m
abbrev pub total : (ℕ → ℕ) → ℕ → ℕ
total g zero = 0
total g (suc m) = total g m + g m

total_zero : (m : ℕ) → total (λ k. 0) m ≡ 0
total_zero zero = refl
total_zero (suc m) = let i = total_zero m in omega (arith, i)

total_plus : (f g : ℕ → ℕ) (m : ℕ) → total (λ k. f k + g k) m ≡ total f m + total g m
total_plus f g zero = omega arith
total_plus f g (suc m) = let i = total_plus f g m in omega (arith, i)

total_none : (j w m : ℕ) → m ≤ j → total (λ k. cond (j == k) w 0) m ≡ 0
total_none j w zero l = refl
total_none j w (suc m) l =
    let i = total_none j w m (omega (arith, l)) in
    let e : cond (j == m) w 0 ≡ 0 = ap (λ b. cond b w 0) (above_not m j (omega (arith, l))) in
    omega (arith, i, e)

total_one : (j w m : ℕ) → j < m → total (λ k. cond (j == k) w 0) m ≡ w
total_one j w zero l = absurd (omega (arith, l))
total_one j w (suc m) l = ⊎_elim past (here (total_one j w m)) (le_or_over m j)
  where
    past : m ≤ j → total (λ k. cond (j == k) w 0) (suc m) ≡ w
    past q =
        let same : j ≡ m = omega (arith, q, l) in
        let i = total_none j w m q in
        let e : cond (j == m) w 0 ≡ w = ap (λ b. cond b w 0) (ap (λ z. z == m) same ∙ eqb-refl m) in
        omega (arith, i, e)

    here : (j < m → total (λ k. cond (j == k) w 0) m ≡ w) → j < m → total (λ k. cond (j == k) w 0) (suc m) ≡ w
    here before q =
        let i = before q in
        let e : cond (j == m) w 0 ≡ 0 = ap (λ b. cond b w 0) (below_not j m q) in
        omega (arith, i, e)

pub total_less : (f g : ℕ → ℕ) (m : ℕ) → ((k : ℕ) → k < m → f k ≤ g k) → total f m ≤ total g m
total_less f g zero l = omega arith
total_less f g (suc m) l =
    let i = total_less f g m (λ k q. l k (omega (arith, q))) in
    let e = l m (omega arith) in
    omega (arith, i, e)

pub keyed : {X : Type 0} (f key : X → ℕ) (m : ℕ) (xs : List X) → AllByRecursion (λ x. key x < m) xs → total (λ k. sum_by f (filter (λ x. key x == k) xs)) m ≡ sum_by f xs
keyed f key m [] a = total_zero m
keyed {X = X} f key m (x ∷ xs) a =
    (λ j. total (λ k. one k j) m)
    ∙ (total_plus (λ k. cond (key x == k) (f x) 0) (λ k. sum_by f (filter (λ x. key x == k) xs)) m
    ∙ (let i = total_one (key x) (f x) m a.0 in let r = keyed f key m xs a.1 in let s = sum_by-cons f x xs in omega (arith, i, r, s)))
  where
    one : (k : ℕ) → sum_by f (filter (λ x. key x == k) (x ∷ xs)) ≡ cond (key x == k) (f x) 0 + sum_by f (filter (λ x. key x == k) xs)
    one k = step (key x == k)
      where
        ys : List X
        ys = filter (λ x. key x == k) xs

        step : (b : Bool) → sum_by f (cond b (x ∷ filter (λ x. key x == k) xs) (filter (λ x. key x == k) xs)) ≡ cond b (f x) 0 + sum_by f (filter (λ x. key x == k) xs)
        step true = sum_by-cons f x (filter (λ x. key x == k) xs)
        step false = omega arith
