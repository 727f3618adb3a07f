-- Which of the snapshots come first.
use Rattle.std.proofs.Common.{◌≡◌, ℕ, ◌+◌, ◌^◌, ◌<◌, ◌≤◌, List, length, get_or, nat_le, Bool, true, false, ap, sym, ◌∙◌, arith, ⊎_elim}
use Rattle.std.proofs.lemmas.Bool.{cases_lt}
use Rattle.std.proofs.lemmas.Bool.Decides.{nat_tests}
use Rattle.std.proofs.lemmas.Option.{get_or_from_slice_get, slice_get-get_or, slice_get_within}
use Rattle.multi_rules.specs.declared.taken.Taken.{Taken}
use Rattle.multi_rules.specs.Snapped.{AreFirst, IsFarBelow, IsNotFarAbove, NeverFall, is_far_below, is_not_far_above}

rises_at : (taken : List Taken) (i j : ℕ) (d : Taken) → NeverFall taken → i ≤ j → j < length taken → (get_or taken i d).xmax ≤ (get_or taken j d).xmax
rises_at taken i j d n l m = n i j (get_or taken i d) (get_or taken j d) l (slice_get-get_or taken i d (omega arith)) (slice_get-get_or taken j d m)

below_both : (x y k n : ℕ) → x ≤ y → nat_le (y + k) n ≡ true → nat_le (x + k) n ≡ true
below_both x y k n l e = grind (arith, nat_tests)

upto_both : (x y n : ℕ) → x ≤ y → nat_le y n ≡ true → nat_le x n ≡ true
upto_both x y n l e = grind (arith, nat_tests)

pub far_parted : (taken : List Taken) (id : ℕ) → NeverFall taken → (i j : ℕ) (d : Taken) → i ≤ j → j < length taken → is_far_below id (get_or taken j d) ≡ true → is_far_below id (get_or taken i d) ≡ true
far_parted taken id n i j d l m e = below_both (get_or taken i d).xmax (get_or taken j d).xmax (2 ^ 31) id (rises_at taken i j d n l m) e

pub near_parted : (taken : List Taken) (id : ℕ) → NeverFall taken → (i j : ℕ) (d : Taken) → i ≤ j → j < length taken → is_not_far_above id (get_or taken j d) ≡ true → is_not_far_above id (get_or taken i d) ≡ true
near_parted taken id n i j d l m e = upto_both (get_or taken i d).xmax (get_or taken j d).xmax (id + 2 ^ 31) (rises_at taken i j d n l m) e

-- those before a point of parting are the first ones
module _ (P : Taken → Type 0) (p : Taken → Bool) (yes : (t : Taken) → p t ≡ true → P t) (no : (t : Taken) → p t ≡ false → P t → ⊥) where
  first_are : (taken : List Taken) (end : ℕ) → end ≤ length taken → ((k : ℕ) (d : Taken) → 0 ≤ k → k < end → p (get_or taken k d) ≡ true) → ((k : ℕ) (d : Taken) → end ≤ k → k < length taken → p (get_or taken k d) ≡ false) → AreFirst P taken end
  first_are taken end bound front behind = record {
    within = bound;
    each = λ i t e.
        let low : i < length taken = slice_get_within taken i t e in
        let is : get_or taken i t ≡ t = get_or_from_slice_get taken i t t e in (
          λ holds. ⊎_elim (λ (u : i < end). u) (λ (u : end ≤ i). absurd (no t (sym (ap p is) ∙ behind i t u low) holds)) (cases_lt i end),
          λ u. yes t (sym (ap p is) ∙ front i t (omega arith) u),
        );
  }

le_yes : (x n : ℕ) → nat_le x n ≡ true → x ≤ n
le_yes x n e = grind (arith, nat_tests)

le_no : (x n : ℕ) → nat_le x n ≡ false → x ≤ n → ⊥
le_no x n e l = grind (arith, nat_tests)

pub first_far : (taken : List Taken) (id end : ℕ) → end ≤ length taken → ((k : ℕ) (d : Taken) → 0 ≤ k → k < end → is_far_below id (get_or taken k d) ≡ true) → ((k : ℕ) (d : Taken) → end ≤ k → k < length taken → is_far_below id (get_or taken k d) ≡ false) → AreFirst (IsFarBelow id) taken end
first_far taken id end bound front behind = first_are (IsFarBelow id) (is_far_below id) (λ t e. le_yes (t.xmax + 2 ^ 31) id e) (λ t e l. le_no (t.xmax + 2 ^ 31) id e l) taken end bound front behind

pub first_near : (taken : List Taken) (id end : ℕ) → end ≤ length taken → ((k : ℕ) (d : Taken) → 0 ≤ k → k < end → is_not_far_above id (get_or taken k d) ≡ true) → ((k : ℕ) (d : Taken) → end ≤ k → k < length taken → is_not_far_above id (get_or taken k d) ≡ false) → AreFirst (IsNotFarAbove id) taken end
first_near taken id end bound front behind = first_are (IsNotFarAbove id) (is_not_far_above id) (λ t e. le_yes t.xmax (id + 2 ^ 31) e) (λ t e l. le_no t.xmax (id + 2 ^ 31) e l) taken end bound front behind
