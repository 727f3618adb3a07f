-- A page whose bytes are set is a page.
use Rattle.std.proofs.Common.{◌≡◌, ◌≢◌, ◌⊎◌, ⊎_elim, ℕ, ◌+◌, ◌-◌, ◌<◌, ◌≤◌, List, ◌++◌, length, take, drop, slice_index, slice_set, sym, subst, ◌∙◌, arith}
use Rattle.std.specs.Prelude.{bit_and}
use Rattle.std.proofs.lemmas.List.{get_or-set_other, get_or-set_same, length-append, length-drop, length-set, length-take-le}
use Rattle.std.proofs.lemmas.Nat.{and_le_l, and_le_r, or_lt}
use Rattle.slru_bank.specs.Bank.{IsPage, PutsPage, StaysAPage, masked, placed}
use Rattle.slru_bank.specs.ByteRange.{placed_before, placed_in, placed_past}

masked_small : (old mask bits : ℕ) → old < 256 → mask < 256 → masked old mask bits < 256
masked_small old mask bits old_small mask_small =
    or_lt 8 (bit_and old (255 - mask)) (bit_and bits mask) (omega (arith, old_small, and_le_l old (255 - mask))) (omega (arith, mask_small, and_le_r bits mask))

set_page : (l : List ℕ) (at v : ℕ) → at < 8192 → IsPage l → v < 256 → IsPage (slice_set l at v)
set_page l at v within is v_small =
    let whole : length l ≡ 8192 = is.whole in
    record {
      whole = length-set l at v ∙ whole;
      small = λ i. ⊎_elim
          (λ (h : i ≡ at). subst (λ k. slice_index (slice_set l at v) k < 256) (sym h) (subst (λ b. b < 256) (sym (get_or-set_same l at v 0 (omega arith))) v_small))
          (λ (h : i ≢ at). subst (λ b. b < 256) (sym (get_or-set_other l at i v 0 h)) (is.small i))
          (same_or_not i at);
    }
  where
    same_or_not : (a b : ℕ) → (a ≡ b) ⊎ (a ≢ b)
    same_or_not a b = grind arith

placed_page : (l from : List ℕ) (at : ℕ) → at + length from ≤ 8192 → IsPage l → ((i : ℕ) → slice_index from i < 256) → IsPage (placed l at from)
placed_page l from at within is from_small =
    let whole : length l ≡ 8192 = is.whole in
    let front : length (take at l) ≡ at = length-take-le at l (omega arith) in
    let rest : length (drop (at + length from) l) ≡ length l - (at + length from) = length-drop (at + length from) l in
    let behind : length (from ++ drop (at + length from) l) ≡ length from + length (drop (at + length from) l) = length-append from (drop (at + length from) l) in
    let all : length (placed l at from) ≡ length (take at l) + length (from ++ drop (at + length from) l) = length-append (take at l) (from ++ drop (at + length from) l) in
    record {
      whole = omega arith;
      small = λ i. ⊎_elim
          (λ (h : i < at). subst (λ b. b < 256) (sym (placed_before l from at i (omega arith) h)) (is.small i))
          (⊎_elim
          (λ (h : (at ≤ i) × (i < at + length from)).
          let place : at + (i - at) ≡ i = omega arith in
          subst (λ k. slice_index (placed l at from) k < 256) place (subst (λ b. b < 256) (sym (placed_in l from at (i - at) (omega arith) (omega arith))) (from_small (i - at))))
          (λ (h : at + length from ≤ i). subst (λ b. b < 256) (sym (placed_past l from at i (omega arith) h)) (is.small i)))
          (where_of i at (length from));
    }
  where
    where_of : (i at n : ℕ) → (i < at) ⊎ (((at ≤ i) × (i < at + n)) ⊎ (at + n ≤ i))
    where_of i at n = grind arith

-- what `set` and `put` leave of a page
pub set_stays : (page at mask bits : ℕ) (old new : ℕ → List ℕ) → at < 8192 → mask < 256 → IsPage (old page) → PutsPage page (slice_set (old page) at (masked (slice_index (old page) at) mask bits)) old new → StaysAPage page old new
set_stays page at mask bits old new within mask_small was puts = record {
  was = was;
  is = subst IsPage (sym puts.here) (set_page (old page) at (masked (slice_index (old page) at) mask bits) within was (masked_small (slice_index (old page) at) mask bits (was.small at) mask_small));
}

pub put_stays : (page at : ℕ) (from : List ℕ) (old new : ℕ → List ℕ) → at + length from ≤ 8192 → ((i : ℕ) → slice_index from i < 256) → IsPage (old page) → PutsPage page (placed (old page) at from) old new → StaysAPage page old new
put_stays page at from old new within small was puts = record { was = was; is = subst IsPage (sym puts.here) (placed_page (old page) from at within was small) }
