-- Where a column that never falls is parted.
use Rattle.std.proofs.Common.{◌≡◌, ℕ, ◌<◌, ◌≤◌, List, length, get_or, arith, ⊎_elim, true, false, nat_lt, nat_le}
use Rattle.std.specs.List.{slice_index_or}
use Rattle.std.proofs.lemmas.Bool.{cases_lt}
use Rattle.std.proofs.lemmas.Bool.Decides.{nat_tests}
use Rattle.std.proofs.lemmas.Grind.{get_or_default_zero}
use Rattle.place_columns.specs.Columns.{IsSpanOf, NeverFalls}

rises_at : (xs : List ℕ) (i j d : ℕ) → NeverFalls xs → i ≤ j → j < length xs → slice_index_or xs i d ≤ slice_index_or xs j d
rises_at xs i j d n l m =
    let a : get_or xs i d ≡ get_or xs i 0 = get_or_default_zero xs i d (omega arith) in
    let b : get_or xs j d ≡ get_or xs j 0 = get_or_default_zero xs j d m in
    let r : get_or xs i 0 ≤ get_or xs j 0 = n i j l m in
    omega arith

below_both : (x y n : ℕ) → x ≤ y → nat_lt y n ≡ true → nat_lt x n ≡ true
below_both x y n l e = grind (arith, nat_tests)

upto_both : (x y n : ℕ) → x ≤ y → nat_le y n ≡ true → nat_le x n ≡ true
upto_both x y n l e = grind (arith, nat_tests)

pub below_parted : (xs : List ℕ) (n : ℕ) → NeverFalls xs → (i j : ℕ) (d : ℕ) → i ≤ j → j < length xs → nat_lt (slice_index_or xs j d) n ≡ true → nat_lt (slice_index_or xs i d) n ≡ true
below_parted xs n r i j d l m e = below_both (slice_index_or xs i d) (slice_index_or xs j d) n (rises_at xs i j d r l m) e

pub upto_parted : (xs : List ℕ) (n : ℕ) → NeverFalls xs → (i j : ℕ) (d : ℕ) → i ≤ j → j < length xs → nat_le (slice_index_or xs j d) n ≡ true → nat_le (slice_index_or xs i d) n ≡ true
upto_parted xs n r i j d l m e = upto_both (slice_index_or xs i d) (slice_index_or xs j d) n (rises_at xs i j d r l m) e

lt_no : (x n : ℕ) → nat_lt x n ≡ false → n ≤ x
lt_no x n e = grind (arith, nat_tests)

le_no : (x n : ℕ) → nat_le x n ≡ false → n < x
le_no x n e = grind (arith, nat_tests)

lt_yes : (x n : ℕ) → nat_lt x n ≡ true → x < n
lt_yes x n e = grind (arith, nat_tests)

le_yes : (x n : ℕ) → nat_le x n ≡ true → x ≤ n
le_yes x n e = grind (arith, nat_tests)

pub span_is : (xs : List ℕ) (n from end : ℕ) → end ≤ length xs
    → ((k : ℕ) (d : ℕ) → 0 ≤ k → k < from → nat_lt (slice_index_or xs k d) n ≡ true) → ((k : ℕ) (d : ℕ) → from ≤ k → k < length xs → nat_lt (slice_index_or xs k d) n ≡ false)
    → ((k : ℕ) (d : ℕ) → 0 ≤ k → k < end → nat_le (slice_index_or xs k d) n ≡ true) → ((k : ℕ) (d : ℕ) → end ≤ k → k < length xs → nat_le (slice_index_or xs k d) n ≡ false)
    → IsSpanOf xs n (record { from = from; end = end })
span_is xs n from end bound below not_below upto past = record {
  within = bound;
  each = λ p l. (
    λ e. (
      ⊎_elim (λ (u : p < from). let a = lt_yes (get_or xs p 0) n (below p 0 (omega arith) u) in absurd (omega arith)) (λ (u : from ≤ p). u) (cases_lt p from),
      ⊎_elim (λ (u : p < end). u) (λ (u : end ≤ p). let a = le_no (get_or xs p 0) n (past p 0 u l) in absurd (omega arith)) (cases_lt p end),
    ),
    λ z.
        let a = lt_no (get_or xs p 0) n (not_below p 0 z.0 l) in
        let b = le_yes (get_or xs p 0) n (upto p 0 (omega arith) z.1) in
        omega arith,
  );
}
