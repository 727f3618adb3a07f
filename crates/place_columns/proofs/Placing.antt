-- How often each number stands, while numbers are added, and at which places.
use Rattle.std.proofs.Common.{◌≡◌, ◌≢◌, ℕ, suc, zero, ◌+◌, ◌<◌, ◌≤◌, List, [], ◌∷◌, ◌++◌, length, get_or, replicate, set, take, refl, ap, sym, subst, ◌∙◌, arith, ⊎_elim, Bool, true, false, cond, ◌==◌, eqb-true, length-append}
use Rattle.std.specs.List.{count_by}
use Rattle.std.proofs.lemmas.Bool.{cases_Bool, cases_lt, false≢true}
use Rattle.std.proofs.lemmas.List.{get_or-replicate, get_or-set_other, get_or-set_same, length-replicate, length-set, take-append-le}
use Rattle.std.proofs.lemmas.List.Sums.{sum_by-cons, sum_by_push}
use Rattle.std.proofs.Math.ListN.{get_or-append}
use Rattle.std.proofs.Math.Seq.{get_or-append_seam, take-length}
use Rattle.tx_events.proofs.ListSteps.{eqb-refl}
use Rattle.place_columns.specs.Lined.{places_from}
use Rattle.place_columns.specs.Tables.{AreRanks, AreTotals}

-- ---- totals

pub totals_none : (n : ℕ) (totals : List ℕ) → totals ≡ replicate n 0 → AreTotals [] totals
totals_none n totals is = λ i l.
    let size : length totals ≡ n = ap (λ (t : List ℕ). length t) is ∙ length-replicate n 0 in
    ap (λ (t : List ℕ). get_or t i 0) is ∙ get_or-replicate n i 0 0 (omega arith)

count_push : (i k : ℕ) (ks : List ℕ) (t : Bool) → (k == i) ≡ t → count_by (λ j. j == i) (ks ++ k ∷ []) ≡ count_by (λ j. j == i) ks + cond t 1 0
count_push i k ks t e = sum_by_push (λ j. cond (j == i) 1 0) ks k ∙ ap (λ b. count_by (λ j. j == i) ks + cond b 1 0) e

pub totals_after : (ks : List ℕ) (k : ℕ) (totals : List ℕ) (r : ℕ) → AreTotals ks totals → k < length totals → r ≡ count_by (λ j. j == k) ks → AreTotals (ks ++ k ∷ []) (set totals k (r + 1))
totals_after ks k totals r a l is = λ i m.
    let n : i < length totals = omega (arith, length-set totals k (r + 1)) in
    ⊎_elim
    (λ (own : (k == i) ≡ true).
    let same : k ≡ i = eqb-true k i own in
    let now : get_or (set totals k (r + 1)) i 0 ≡ r + 1 = ap (λ j. get_or (set totals k (r + 1)) j 0) (sym same) ∙ get_or-set_same totals k (r + 1) 0 l in
    let of_i : r ≡ count_by (λ j. j == i) ks = is ∙ ap (λ x. count_by (λ j. j == x) ks) same in
    let more = count_push i k ks true own in
    omega arith)
    (λ (other : (k == i) ≡ false).
    let apart : i ≢ k = λ q. false≢true (sym other ∙ ap (λ y. y == i) (sym q) ∙ eqb-refl i) in
    let now : get_or (set totals k (r + 1)) i 0 ≡ get_or totals i 0 = get_or-set_other totals k i (r + 1) 0 apart in
    let before = a i n in
    let more = count_push i k ks false other in
    omega arith)
    (cases_Bool (k == i))

-- ---- places

-- there are as many as the number stands
pub length_places : (i n : ℕ) (ks : List ℕ) → length (places_from i n ks) ≡ count_by (λ k. k == i) ks
length_places i n [] = refl
length_places i n (k ∷ ks) = step (k == i) (length_places i (n + 1) ks) ∙ sym (sum_by-cons (λ k. cond (k == i) 1 0) k ks)
  where
    step : (t : Bool) → length (places_from i (n + 1) ks) ≡ count_by (λ k. k == i) ks → length (cond t (n ∷ places_from i (n + 1) ks) (places_from i (n + 1) ks)) ≡ cond t 1 0 + count_by (λ k. k == i) ks
    step true e = omega arith
    step false e = omega arith

-- the place of this rank
pub record IsRanked (i n : ℕ) (ks : List ℕ) (r place : ℕ) : Type 0 where
  pub at : ℕ
  pub is : place ≡ n + at
  pub within : at < length ks
  pub number : get_or ks at 0 ≡ i
  pub rank : count_by (λ k. k == i) (take at ks) ≡ r

first_ranked : (i n k : ℕ) (ks : List ℕ) → (k == i) ≡ true → IsRanked i n (k ∷ ks) 0 n
first_ranked i n k ks e = record { at = 0; is = omega arith; within = omega arith; number = eqb-true k i e; rank = refl }

later_ranked : (i n k : ℕ) (ks : List ℕ) (r place : ℕ) (t : Bool) → (k == i) ≡ t → IsRanked i (n + 1) ks r place → IsRanked i n (k ∷ ks) (cond t 1 0 + r) place
later_ranked i n k ks r place t e z = record {
  at = suc z.at;
  is = let a = z.is in omega arith;
  within = let a = z.within in omega arith;
  number = z.number;
  rank = sum_by-cons (λ j. cond (j == i) 1 0) k (take z.at ks) ∙ ap (λ b. cond b 1 0 + count_by (λ j. j == i) (take z.at ks)) e ∙ ap (λ m. cond t 1 0 + m) z.rank;
}

pub place_tells : (i n : ℕ) (ks : List ℕ) (r d : ℕ) → r < length (places_from i n ks) → IsRanked i n ks r (get_or (places_from i n ks) r d)
place_tells i n [] r d l = absurd (omega arith)
place_tells i n (k ∷ ks) r d l = step (λ r l. place_tells i (n + 1) ks r d l) (k == i) refl r l
  where
    step : ((r : ℕ) → r < length (places_from i (n + 1) ks) → IsRanked i (n + 1) ks r (get_or (places_from i (n + 1) ks) r d)) → (t : Bool) → (k == i) ≡ t → (r : ℕ) → r < length (cond t (n ∷ places_from i (n + 1) ks) (places_from i (n + 1) ks)) → IsRanked i n (k ∷ ks) r (get_or (cond t (n ∷ places_from i (n + 1) ks) (places_from i (n + 1) ks)) r d)
    step f true e zero l = first_ranked i n k ks e
    step f true e (suc r) l = subst (λ m. IsRanked i n (k ∷ ks) m (get_or (places_from i (n + 1) ks) r d)) (omega arith) (later_ranked i n k ks r (get_or (places_from i (n + 1) ks) r d) true e (f r (omega arith)))
    step f false e r l = subst (λ m. IsRanked i n (k ∷ ks) m (get_or (places_from i (n + 1) ks) r d)) (omega arith) (later_ranked i n k ks r (get_or (places_from i (n + 1) ks) r d) false e (f r l))

-- ---- ranks

pub ranks_none : AreRanks [] []
ranks_none = record { size = refl; each = λ p l. absurd (omega arith) }

pub ranks_after : (ks ranks : List ℕ) (k r : ℕ) → AreRanks ks ranks → r ≡ count_by (λ j. j == k) ks → AreRanks (ks ++ k ∷ []) (ranks ++ r ∷ [])
ranks_after ks ranks k r a is = record {
  size = let s = a.size in omega (arith, length-append ranks (r ∷ []), length-append ks (k ∷ []));
  each = λ p l.
      let s = a.size in
      let m = length-append ks (k ∷ []) in
      ⊎_elim
      (λ (u : p < length ks).
      get_or-append ranks (r ∷ []) 0 p (omega arith) ∙ a.each p u
      ∙ ap (λ n. count_by (λ j. j == n) (take p ks)) (sym (get_or-append ks (k ∷ []) 0 p u))
      ∙ ap (λ (t : List ℕ). count_by (λ j. j == get_or (ks ++ k ∷ []) p 0) t) (sym (take-append-le p ks (k ∷ []) (omega arith))))
      (λ (u : length ks ≤ p).
      let at : p ≡ length ranks = omega arith in
      let here : p ≡ length ks = omega arith in
      let whole : take p (ks ++ k ∷ []) ≡ ks = ap (λ n. take n (ks ++ k ∷ [])) here ∙ take-append-le (length ks) ks (k ∷ []) (omega arith) ∙ take-length ks in
      let own : get_or (ks ++ k ∷ []) p 0 ≡ k = ap (λ n. get_or (ks ++ k ∷ []) n 0) here ∙ get_or-append_seam ks k [] 0 in
      ap (λ n. get_or (ranks ++ r ∷ []) n 0) at ∙ get_or-append_seam ranks r [] 0 ∙ is
      ∙ ap (λ n. count_by (λ j. j == n) ks) (sym own)
      ∙ ap (λ (t : List ℕ). count_by (λ j. j == get_or (ks ++ k ∷ []) p 0) t) (sym whole))
      (cases_lt p (length ks));
}
