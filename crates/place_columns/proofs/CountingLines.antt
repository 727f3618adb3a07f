-- How many numbers are below one, and the greatest of them.
use Rattle.std.proofs.Common.{◌≡◌, ℕ, ◌+◌, ◌<◌, ◌≤◌, List, [], ◌∷◌, ◌++◌, length, get_or, max, refl, ap, ◌∙◌, arith, Bool, false, cond, ◌==◌, nat_lt, length-append, ⊎_elim}
use Rattle.std.specs.List.{AllByRecursion, count_by}
use Rattle.std.proofs.lemmas.Bool.{cases_lt}
use Rattle.std.proofs.lemmas.Bool.Decides.{nat_tests}
use Rattle.std.proofs.lemmas.List.Sums.{count_by-le-length, sum_by-cons}
use Rattle.std.proofs.Math.ListN.{get_or-append}
use Rattle.std.proofs.Math.Seq.{get_or-append_seam}
use Rattle.place_columns.specs.Lined.{most_of}
use Rattle.place_columns.specs.Tables.{AreCounts, AreTotals}

abbrev one_or_none : Bool → ℕ
one_or_none t = cond t 1 0

below_next : (k n : ℕ) → one_or_none (nat_lt k (n + 1)) ≡ one_or_none (nat_lt k n) + one_or_none (k == n)
below_next k n = grind (arith, nat_tests)

-- one number more
pub count_next : (n : ℕ) (ks : List ℕ) → count_by (λ k. nat_lt k (n + 1)) ks ≡ count_by (λ k. nat_lt k n) ks + count_by (λ k. k == n) ks
count_next n [] = refl
count_next n (k ∷ ks) =
    let a = sum_by-cons (λ k. cond (nat_lt k (n + 1)) 1 0) k ks in
    let b = sum_by-cons (λ k. cond (nat_lt k n) 1 0) k ks in
    let c = sum_by-cons (λ k. cond (k == n) 1 0) k ks in
    let one = below_next k n in
    let rest = count_next n ks in
    omega arith

below_none : (k : ℕ) → nat_lt k 0 ≡ false
below_none k = grind (arith, nat_tests)

pub count_none : (ks : List ℕ) → 0 ≡ count_by (λ k. nat_lt k 0) ks
count_none [] = refl
count_none (k ∷ ks) =
    let a = sum_by-cons (λ k. cond (nat_lt k 0) 1 0) k ks in
    let one : one_or_none (nat_lt k 0) ≡ 0 = ap one_or_none (below_none k) in
    let rest = count_none ks in
    omega arith

pub next_below : (ks : List ℕ) (n below : ℕ) (totals : List ℕ) → AreTotals ks totals → n < length totals → below ≡ count_by (λ k. nat_lt k n) ks → below + get_or totals n 0 ≡ count_by (λ k. nat_lt k (n + 1)) ks
next_below ks n below totals a l is =
    let theirs = a n l in
    let next = count_next n ks in
    omega arith

pub few : (ks : List ℕ) (n : ℕ) → count_by (λ k. nat_lt k n) ks ≤ length ks
few ks n = count_by-le-length (λ k. nat_lt k n) ks

pub counts_start : (ks : List ℕ) → AreCounts ks 0 []
counts_start ks = record { size = refl; each = λ n l. absurd (omega arith) }

pub counts_after : (ks counts : List ℕ) (n c : ℕ) → AreCounts ks n counts → c ≡ count_by (λ k. nat_lt k n) ks → AreCounts ks (n + 1) (counts ++ c ∷ [])
counts_after ks counts n c a is = record {
  size = let s = a.size in omega (arith, length-append counts (c ∷ []));
  each = λ m l.
      let s = a.size in
      ⊎_elim
      (λ (u : m < n). get_or-append counts (c ∷ []) 0 m (omega arith) ∙ a.each m u)
      (λ (u : n ≤ m).
      let at : m ≡ length counts = omega arith in
      let here : n ≡ m = omega arith in
      ap (λ k. get_or (counts ++ c ∷ []) k 0) at ∙ get_or-append_seam counts c [] 0 ∙ is ∙ ap (λ j. count_by (λ k. nat_lt k j) ks) here)
      (cases_lt m n);
}

-- ---- the greatest

max_swap : (a b c : ℕ) → max a (max b c) ≡ max b (max a c)
max_swap a b c = omega arith

max_zero : (a : ℕ) → max a 0 ≡ a
max_zero a = omega arith

pub most_push : (ks : List ℕ) (k : ℕ) → max k (most_of ks) ≡ most_of (ks ++ k ∷ [])
most_push [] k = refl
most_push (c ∷ ks) k = max_swap k c (most_of ks) ∙ ap (λ m. max c m) (most_push ks k)

-- all are up to n exactly where the greatest is
pub all_upto : (ks : List ℕ) (n : ℕ) → most_of ks ≤ n → AllByRecursion (λ k. k ≤ n) ks
all_upto [] n l = tt
all_upto (k ∷ ks) n l = (let a : k ≤ n = omega arith in a, all_upto ks n (omega arith))

pub most_upto : (ks : List ℕ) (n : ℕ) → AllByRecursion (λ k. k ≤ n) ks → most_of ks ≤ n
most_upto [] n a = omega arith
most_upto (k ∷ ks) n a =
    let f : k ≤ n = a.0 in
    let r : most_of ks ≤ n = most_upto ks n a.1 in
    omega arith
