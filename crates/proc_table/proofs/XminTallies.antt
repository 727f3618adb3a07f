-- How many live snapshots have each xmin.
use Rattle.std.proofs.Common.{eqb-true, ◌≡◌, ℕ, ◌+◌, ◌-◌, ◌<◌, ◌≤◌, List, [], ◌∷◌, ◌++◌, refl, ap, ◌∙◌, inl, inr, ⊎_elim, arith, Bool, true, false, ◌==◌, cond, map, min}
use Rattle.std.proofs.lemmas.Bool.Decides.{nat_tests}
use Rattle.std.proofs.lemmas.List.Sums.{sum_by-cons, sum_by-append}
use Rattle.std.proofs.lemmas.Map.Keys.{le_from_not_gt}
use Rattle.std.specs.List.{fold}
use Rattle.std.specs.Ordering.{nat_cmp, is_gt, is_lt}
use Rattle.tx_events.proofs.Extremes.{fold_min_start, fold_min_has, fold_min_above}
use Rattle.tx_events.proofs.ListSteps.{eqb-refl}
use Rattle.tx_events.proofs.Membership.{Has}
use Rattle.tx_events.specs.Horizon.{LiveSnap}
use Rattle.counted_map.specs.Counts.{with_count}
use Rattle.counted_map.proofs.Counted.{cmp_eq}
use Rattle.proc_table.specs.Lives.{one_more, with_xmin}

abbrev one_if : Bool → ℕ
one_if b = cond b 1 0

-- the counts after one more, and after one less
pub more_is : (f : ℕ → ℕ) (key x : ℕ) → with_count nat_cmp key (f key + 1) f x ≡ one_more key f x
more_is f key x =
    let step : (b : Bool) → (key == x) ≡ b → cond b (f key + 1) (f x) ≡ f x + one_if b = elim [
      | true ↦ λ e. let same : f key ≡ f x = ap f (eqb-true key x e) in omega arith
      | false ↦ λ e. omega arith
    ] in
    ap (λ b. cond b (f key + 1) (f x)) (cmp_eq key x) ∙ step (key == x) refl

pub less_is : (f : ℕ → ℕ) (key x : ℕ) → with_count nat_cmp key (one_more key f key - 1) (one_more key f) x ≡ f x
less_is f key x =
    let here : one_if (key == key) ≡ 1 = ap one_if (eqb-refl key) in
    let step : (b : Bool) → (key == x) ≡ b → cond b (f key + one_if (key == key) - 1) (f x + one_if b) ≡ f x = elim [
      | true ↦ λ e. let same : f key ≡ f x = ap f (eqb-true key x e) in omega arith
      | false ↦ λ e. omega arith
    ] in
    ap (λ b. cond b (one_more key f key - 1) (one_more key f x)) (cmp_eq key x) ∙ step (key == x) refl

-- the xmins of snapshots
pub with_push : (ss : List LiveSnap) (r : LiveSnap) (x : ℕ) → with_xmin (ss ++ r ∷ []) x ≡ one_more r.xmin (with_xmin ss) x
with_push ss r x = sum_by-append (λ (s : LiveSnap). cond (s.xmin == x) 1 0) ss (r ∷ []) ∙ ap (λ n. with_xmin ss x + n) (sum_by-cons (λ (s : LiveSnap). cond (s.xmin == x) 1 0) r [] ∙ omega arith)

with_cons : (s : LiveSnap) (ss : List LiveSnap) (x : ℕ) → with_xmin (s ∷ ss) x ≡ one_if (s.xmin == x) + with_xmin ss x
with_cons s ss x = sum_by-cons (λ (s : LiveSnap). one_if (s.xmin == x)) s ss

counted_has : (ss : List LiveSnap) (x : ℕ) → 1 ≤ with_xmin ss x → Has (map (λ (s : LiveSnap). s.xmin) ss) x
counted_has [] x h = absurd (omega arith)
counted_has (s ∷ ss) x h = one (s.xmin == x) refl (with_cons s ss x) (λ k. counted_has ss x k)
  where
    one : (b : Bool) → (s.xmin == x) ≡ b → with_xmin (s ∷ ss) x ≡ one_if b + with_xmin ss x → (1 ≤ with_xmin ss x → Has (map (λ (s : LiveSnap). s.xmin) ss) x) → Has (map (λ (s : LiveSnap). s.xmin) (s ∷ ss)) x
    one true e c i = inl (eqb-true s.xmin x e)
    one false e c i = inr (i (omega arith))

has_counted : (ss : List LiveSnap) (x : ℕ) → Has (map (λ (s : LiveSnap). s.xmin) ss) x → 1 ≤ with_xmin ss x
has_counted [] x h = absurd h
has_counted (s ∷ ss) x h =
    let c : with_xmin (s ∷ ss) x ≡ one_if (s.xmin == x) + with_xmin ss x = with_cons s ss x in
    ⊎_elim
    (λ (e : s.xmin ≡ x). let o : one_if (s.xmin == x) ≡ 1 = ap one_if (ap (λ z. z == x) e ∙ eqb-refl x) in omega arith)
    (λ t. let i : 1 ≤ with_xmin ss x = has_counted ss x t in omega arith)
    h

-- the least xmin is the least key
pub tally_least : (ss : List LiveSnap) (x from : ℕ) → 1 ≤ with_xmin ss x → ((q : ℕ) → 1 ≤ with_xmin ss q → is_gt (nat_cmp x q) ≡ false) → fold min from (map (λ (s : LiveSnap). s.xmin) ss) ≡ min from x
tally_least ss x from at least =
    let xs : List ℕ = map (λ (s : LiveSnap). s.xmin) ss in
    let a : fold min from xs ≤ from = fold_min_start from xs in
    let b : fold min from xs ≤ x = fold_min_has from xs x (counted_has ss x at) in
    let c : min from x ≤ fold min from xs =
    fold_min_above from (min from x) xs (omega arith) (λ y h. let l : x ≤ y = le_from_not_gt x y (least y (has_counted ss y h)) in omega arith) in
    omega arith

pub none_counted : (ss : List LiveSnap) → ((x : ℕ) → with_xmin ss x ≡ 0) → ss ≡ []
none_counted [] f = refl
none_counted (s ∷ ss) f = absurd (let h : 1 ≤ with_xmin (s ∷ ss) s.xmin = has_counted (s ∷ ss) s.xmin (inl refl) in let z = f s.xmin in omega arith)

-- what the order of two numbers tells
pub lt_from_cmp : (a b : ℕ) → is_lt (nat_cmp a b) ≡ true → a < b
lt_from_cmp a b f = grind (arith, nat_tests)
