-- Pages of zeros, and pages with zeros at their end.
use Rattle.std.proofs.Common.{◌≡◌, ◌⊎◌, inl, inr, ⊎_elim, ℕ, zero, suc, ◌-◌, ◌<◌, ◌≤◌, Bool, true, false, List, [], ◌∷◌, ◌++◌, length, take, replicate, slice_index, refl, subst, sym, ◌∙◌, ap, arith}
use Rattle.std.proofs.lemmas.List.{get_or-replicate, get_or_past, length-replicate}
use Rattle.disk_core.specs.Pages.{Pages, page_bytes, zero_page}
use Rattle.slru_bank.specs.Crash.{CrashLeaves, runs_then, IsMixture, IsMixtureOrGone, byte_at}
use Rattle.slru_bank.specs.Removal.{MayDrop, MayLack}
use Rattle.slru_bank.proofs.BufferLists.{two_ways}

below_or_not : (i n : ℕ) → (i < n) ⊎ (n ≤ i)
below_or_not i n = grind arith

pub zero_byte : (i : ℕ) → slice_index zero_page i ≡ 0
unfolding zero_page
zero_byte i = ⊎_elim (λ (h : i < 8192). get_or-replicate 8192 i 0 0 h) (λ (h : 8192 ≤ i). get_or_past (replicate 8192 0) i 0 (let bytes : List ℕ = replicate 8192 0 in let long : length bytes ≡ 8192 = length-replicate {A = ℕ} 8192 0 in omega arith)) (below_or_not i 8192)

all_zeros : (xs : List ℕ) → ((k : ℕ) → k < length xs → slice_index xs k ≡ 0) → xs ≡ replicate (length xs) 0
all_zeros [] zeros = refl
all_zeros (x ∷ xs) zeros =
    let first : x ≡ 0 = zeros 0 (omega arith) in
    let rest : xs ≡ replicate (length xs) 0 = all_zeros xs (λ k within. zeros (suc k) (omega arith)) in
    ap (λ (y : ℕ). y ∷ xs) first ∙ ap (λ (ys : List ℕ). 0 ∷ ys) rest

-- a list that is 0 from a place on
cleared_list : (xs : List ℕ) (at : ℕ) → at ≤ length xs → ((k : ℕ) → at ≤ k → k < length xs → slice_index xs k ≡ 0) → xs ≡ take at xs ++ replicate (length xs - at) 0
cleared_list xs zero within zeros = let same : length xs - 0 ≡ length xs = omega arith in rw same (all_zeros xs (λ k h. zeros k (omega arith) h))
cleared_list [] (suc at) within zeros = absurd (omega arith)
cleared_list (x ∷ xs) (suc at) within zeros =
    let same : suc (length xs) - suc at ≡ length xs - at = omega arith in
    rw same (ap (λ (ys : List ℕ). x ∷ ys) (cleared_list xs at (omega arith) (λ k from h. zeros (suc k) (omega arith) (omega arith))))

pub cleared_same : (xs : List ℕ) (at : ℕ) → length xs ≡ 8192 → at ≤ 8192 → ((k : ℕ) → at ≤ k → k < 8192 → slice_index xs k ≡ 0) → xs ≡ take at xs ++ replicate (8192 - at) 0
cleared_same xs at long within zeros =
    let same : length xs - at ≡ 8192 - at = omega arith in
    rw (← same) (cleared_list xs at (omega arith) (λ k from h. zeros k from (omega arith)))

-- where pages to remove may be gone, each byte is as it was or 0
pub gone_mixture : (gone : ℕ → Bool) (m new : ℕ → List ℕ) (c d : Pages) → MayLack gone c d → IsMixtureOrGone gone m new c d
gone_mixture gone m new c d lack = record {
  each = λ q i. ⊎_elim
      (λ (h : gone q ≡ true). ⊎_elim
      (λ none. inr (inr (inr (h, ap (λ o. slice_index (page_bytes o) i) none ∙ zero_byte i))))
      (λ same. inl (ap (λ o. slice_index (page_bytes o) i) same))
      (lack.none_or_same q))
      (λ (h : gone q ≡ false). inl (ap (λ o. slice_index (page_bytes o) i) (lack.stay q h)))
      (two_ways (gone q));
}

-- after a removal a mixture over the map that is left
pub gone_then : (gone : ℕ → Bool) (m m1 : ℕ → List ℕ) (c d e : Pages) → MayDrop gone m m1 → IsMixtureOrGone gone m m c d → IsMixture m1 m1 d e → IsMixtureOrGone gone m m c e
gone_then gone m m1 c d e drop first second = record {
  each = λ q i.
      -- a byte of the map that is left
      let left : byte_at e q i ≡ slice_index (m1 q) i → (byte_at e q i ≡ byte_at c q i) ⊎ ((byte_at e q i ≡ slice_index (m q) i) ⊎ ((byte_at e q i ≡ slice_index (m q) i) ⊎ ((gone q ≡ true) × (byte_at e q i ≡ 0)))) = λ h. ⊎_elim
      (λ (taken : gone q ≡ true). ⊎_elim
      (λ (none : m1 q ≡ zero_page). inr (inr (inr (taken, h ∙ ap (λ (l : List ℕ). slice_index l i) none ∙ zero_byte i))))
      (λ (same : m1 q ≡ m q). inr (inl (h ∙ ap (λ (l : List ℕ). slice_index l i) same)))
      (drop.zero_or_same q))
      (λ (kept : gone q ≡ false). inr (inl (h ∙ ap (λ (l : List ℕ). slice_index l i) (drop.stay q kept))))
      (two_ways (gone q)) in
      ⊎_elim
      (λ (h : byte_at e q i ≡ byte_at d q i). subst (λ (b : ℕ). (b ≡ byte_at c q i) ⊎ ((b ≡ slice_index (m q) i) ⊎ ((b ≡ slice_index (m q) i) ⊎ ((gone q ≡ true) × (b ≡ 0))))) (sym h) (first.each q i))
      (λ (k : (byte_at e q i ≡ slice_index (m1 q) i) ⊎ (byte_at e q i ≡ slice_index (m1 q) i)). ⊎_elim left left k)
      (second.each q i);
}

-- a removal, and then calls that leave the map
pub gone_crash : {D : Type 0} (images : D → Pages → Type 0) (moment : D → ℕ) (left_at : D → ℕ → Pages → Type 0) (gone : ℕ → Bool) (m m1 : ℕ → List ℕ) (d0 d1 d2 : D) → MayDrop gone m m1
    → CrashLeaves (IsMixtureOrGone gone m m) images moment left_at d0 d1 → CrashLeaves (IsMixture m1 m1) images moment left_at d1 d2 → CrashLeaves (IsMixtureOrGone gone m m) images moment left_at d0 d2
gone_crash images moment left_at gone m m1 d0 d1 d2 drop first second =
    runs_then images moment left_at (IsMixtureOrGone gone m m) (IsMixture m1 m1) (IsMixtureOrGone gone m m) d0 d1 d2 (λ x y s. s) (λ x y z s t. gone_then gone m m1 x y z drop s t) first second
