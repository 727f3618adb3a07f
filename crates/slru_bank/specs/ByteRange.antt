-- Bytes of a page of which a range was set: those in the range, and the rest that stay. (Lemmas that the stores use.)
use Rattle.std.proofs.Common.{◌≡◌, ◌≢◌, ◌⊎◌, inl, inr, ⊎_elim, ℕ, zero, suc, ◌+◌, ◌-◌, ◌*◌, ◌<◌, ◌≤◌, ◌^◌, true, false, List, [], ◌∷◌, ◌++◌, length, take, drop, replicate, slice_index, Result, Ok, Err, OnOk, refl, sym, ◌∙◌, ap, arith}
use Rattle.std.proofs.lemmas.List.{get_or-drop, get_or-take}
use Rattle.store_pages.specs.Layouts.{number_in}
use Rattle.slru_bank.specs.Bank.{placed, OthersStay, StaysAPage}
use Rattle.disk_core.specs.Pages.{zero_page}
use Rattle.tx_events.specs.PageOrder.{Shape, page_precedes}
use Rattle.slru_bank.specs.Removal.{cleared_from, ClearsAfter}

-- ---- zeros from a place on

zeros_at : (n i : ℕ) → slice_index (replicate n 0) i ≡ 0
zeros_at zero i = refl
zeros_at (suc n) zero = refl
zeros_at (suc n) (suc i) = zeros_at n i

front_kept : (xs : List ℕ) (at n i : ℕ) → i < at → slice_index (take at xs ++ replicate n 0) i ≡ slice_index xs i
front_kept xs zero n i below = absurd (omega arith)
front_kept [] (suc at) n i below = zeros_at n i
front_kept (x ∷ xs) (suc at) n zero below = refl
front_kept (x ∷ xs) (suc at) n (suc i) below = front_kept xs at n i (omega arith)

end_zero : (xs : List ℕ) (at n i : ℕ) → at ≤ i → slice_index (take at xs ++ replicate n 0) i ≡ 0
end_zero xs zero n i from = zeros_at n i
end_zero [] (suc at) n i from = zeros_at n i
end_zero (x ∷ xs) (suc at) n zero from = absurd (omega arith)
end_zero (x ∷ xs) (suc at) n (suc i) from = end_zero xs at n i (omega arith)

pub cleared_before : (xs : List ℕ) (at i : ℕ) → i < at → slice_index (cleared_from at xs) i ≡ slice_index xs i
cleared_before xs at i below = front_kept xs at (8192 - at) i below

pub cleared_past : (xs : List ℕ) (at i : ℕ) → at ≤ i → slice_index (cleared_from at xs) i ≡ 0
cleared_past xs at i from = end_zero xs at (8192 - at) i from

-- ---- a byte that was read

pub first_read : (xs : List ℕ) (at : ℕ) → slice_index (take 1 (drop at xs)) 0 ≡ slice_index xs at
first_read xs at = let e : at + 0 ≡ at = omega arith in get_or-take 1 (drop at xs) 0 0 (omega arith) ∙ get_or-drop at xs 0 0 ∙ ap (λ (i : ℕ). slice_index xs i) e

-- ---- bytes put at a place

before_seam : (xs zs : List ℕ) (at i : ℕ) → at ≤ length xs → i < at → slice_index (take at xs ++ zs) i ≡ slice_index xs i
before_seam xs zs zero i within below = absurd (omega arith)
before_seam [] zs (suc at) i within below = absurd (omega arith)
before_seam (x ∷ xs) zs (suc at) zero within below = refl
before_seam (x ∷ xs) zs (suc at) (suc i) within below = before_seam xs zs at i (omega arith) (omega arith)

past_seam : (xs zs : List ℕ) (at i : ℕ) → at ≤ length xs → slice_index (take at xs ++ zs) (at + i) ≡ slice_index zs i
past_seam xs zs zero i within = let e : 0 + i ≡ i = omega arith in rw e refl
past_seam [] zs (suc at) i within = absurd (omega arith)
past_seam (x ∷ xs) zs (suc at) i within = let e : suc at + i ≡ suc (at + i) = omega arith in rw e (past_seam xs zs at i (omega arith))

in_front : (xs ys : List ℕ) (i : ℕ) → i < length xs → slice_index (xs ++ ys) i ≡ slice_index xs i
in_front [] ys i below = absurd (omega arith)
in_front (x ∷ xs) ys zero below = refl
in_front (x ∷ xs) ys (suc i) below = in_front xs ys i (omega arith)

behind : (xs ys : List ℕ) (j : ℕ) → slice_index (xs ++ ys) (length xs + j) ≡ slice_index ys j
behind [] ys j = let e : 0 + j ≡ j = omega arith in rw e refl
behind (x ∷ xs) ys j = let e : suc (length xs) + j ≡ suc (length xs + j) = omega arith in rw e (behind xs ys j)

pub placed_before : (xs from : List ℕ) (at i : ℕ) → at ≤ length xs → i < at → slice_index (placed xs at from) i ≡ slice_index xs i
placed_before xs from at i within below = before_seam xs (from ++ drop (at + length from) xs) at i within below

pub placed_in : (xs from : List ℕ) (at i : ℕ) → at ≤ length xs → i < length from → slice_index (placed xs at from) (at + i) ≡ slice_index from i
placed_in xs from at i within below = past_seam xs (from ++ drop (at + length from) xs) at i within ∙ in_front from (drop (at + length from) xs) i below

pub placed_past : (xs from : List ℕ) (at i : ℕ) → at ≤ length xs → at + length from ≤ i → slice_index (placed xs at from) i ≡ slice_index xs i
placed_past xs from at i within past =
    let j : ℕ = i - (at + length from) in
    let whole : at + (length from + j) ≡ i = omega arith in
    let back : at + length from + j ≡ i = omega arith in
    ap (λ (k : ℕ). slice_index (placed xs at from) k) (sym whole) ∙ past_seam xs (from ++ drop (at + length from) xs) at (length from + j) within
    ∙ behind from (drop (at + length from) xs) j ∙ get_or-drop (at + length from) xs j 0 ∙ ap (λ (k : ℕ). slice_index xs k) back

-- ---- numbers of four bytes

pub cleared_number_before : (xs : List ℕ) (at k : ℕ) → k + 4 ≤ at → number_in (cleared_from at xs) k ≡ number_in xs k
cleared_number_before xs at k below =
    let b0 : slice_index (cleared_from at xs) k ≡ slice_index xs k = cleared_before xs at k (omega arith) in
    let b1 : slice_index (cleared_from at xs) (k + 1) ≡ slice_index xs (k + 1) = cleared_before xs at (k + 1) (omega arith) in
    let b2 : slice_index (cleared_from at xs) (k + 2) ≡ slice_index xs (k + 2) = cleared_before xs at (k + 2) (omega arith) in
    let b3 : slice_index (cleared_from at xs) (k + 3) ≡ slice_index xs (k + 3) = cleared_before xs at (k + 3) (omega arith) in
    rw (b0, b1, b2, b3) refl

pub cleared_number_past : (xs : List ℕ) (at k : ℕ) → at ≤ k → number_in (cleared_from at xs) k ≡ 0
cleared_number_past xs at k from =
    let b0 : slice_index (cleared_from at xs) k ≡ 0 = cleared_past xs at k (omega arith) in
    let b1 : slice_index (cleared_from at xs) (k + 1) ≡ 0 = cleared_past xs at (k + 1) (omega arith) in
    let b2 : slice_index (cleared_from at xs) (k + 2) ≡ 0 = cleared_past xs at (k + 2) (omega arith) in
    let b3 : slice_index (cleared_from at xs) (k + 3) ≡ 0 = cleared_past xs at (k + 3) (omega arith) in
    rw (b0, b1, b2, b3) refl

-- one page has this number at this place, and all other bytes are as they were
pub record PutsNumber (page at number : ℕ) (old new : ℕ → List ℕ) : Type 0 where
  pub here : number_in (new page) at ≡ number
  pub bytes : (i : ℕ) → (i < at) ⊎ (at + 4 ≤ i) → slice_index (new page) i ≡ slice_index (old page) i
  pub pages : StaysAPage page old new
  pub others : OthersStay page old new

-- a number that doesn't share a byte with the range stays
pub other_number : (page at number : ℕ) (old new : ℕ → List ℕ) (k : ℕ) → PutsNumber page at number old new → (k + 4 ≤ at) ⊎ (at + 4 ≤ k) → number_in (new page) k ≡ number_in (old page) k
other_number page at number old new k puts apart =
    let b0 : slice_index (new page) k ≡ slice_index (old page) k = puts.bytes k (⊎_elim (λ (h : k + 4 ≤ at). inl (omega arith)) (λ (h : at + 4 ≤ k). inr (omega arith)) apart) in
    let b1 : slice_index (new page) (k + 1) ≡ slice_index (old page) (k + 1) = puts.bytes (k + 1) (side 1 (omega arith)) in
    let b2 : slice_index (new page) (k + 2) ≡ slice_index (old page) (k + 2) = puts.bytes (k + 2) (side 2 (omega arith)) in
    let b3 : slice_index (new page) (k + 3) ≡ slice_index (old page) (k + 3) = puts.bytes (k + 3) (side 3 (omega arith)) in
    rw (b0, b1, b2, b3) refl
  where
    side : (j : ℕ) → j < 4 → (k + j < at) ⊎ (at + 4 ≤ k + j)
    side j below = ⊎_elim (λ (h : k + 4 ≤ at). inl (omega arith)) (λ (h : at + 4 ≤ k). inr (omega arith)) apart

-- ---- 2048 numbers a page

apart_fours : (k n : ℕ) → k ≢ n → (4 * k + 4 ≤ 4 * n) ⊎ (4 * n + 4 ≤ 4 * k)
apart_fours k n differs = ⊎_elim (λ (h : k < n). inl (omega arith)) (λ (h : n < k). inr (omega arith)) (lower_or_higher k n differs)
  where
    lower_or_higher : (k n : ℕ) → k ≢ n → (k < n) ⊎ (n < k)
    lower_or_higher k n differs = grind arith

-- the place-th number of one page is this one, and all other numbers are as they were
pub record SetsEntry (page place number : ℕ) (old new : ℕ → List ℕ) : Type 0 where
  pub here : number_in (new page) (4 * place) ≡ number
  pub same_page : (k : ℕ) → k < 2048 → k ≢ place → number_in (new page) (4 * k) ≡ number_in (old page) (4 * k)
  pub pages : StaysAPage page old new
  pub others : OthersStay page old new

pub sets_entry : {E : Type 0} (r : Result (Unit {0}) E) (page place number : ℕ) (old new : ℕ → List ℕ) → OnOk r (PutsNumber page (4 * place) number old new) → OnOk r (SetsEntry page place number old new)
sets_entry (Ok x) page place number old new puts = record {
  here = puts.here;
  same_page = λ k within differs. other_number page (4 * place) number old new (4 * k) puts (apart_fours k place differs);
  pages = puts.pages;
  others = puts.others;
}
sets_entry (Err e) page place number old new puts = tt

-- on one page the numbers from the place-th on are 0, and so are all pages that come after it
pub record TrimsEntries (shape : Shape) (page place : ℕ) (old new : ℕ → List ℕ) : Type 0 where
  pub kept : (k : ℕ) → k < place → number_in (new page) (4 * k) ≡ number_in (old page) (4 * k)
  pub cleared : (k : ℕ) → place ≤ k → k < 2048 → number_in (new page) (4 * k) ≡ 0
  pub zeros : (q : ℕ) → q < 2 ^ 32 → page_precedes shape 2048 page q ≡ true → new q ≡ zero_page
  pub stay : (q : ℕ) → q ≢ page → page_precedes shape 2048 page q ≡ false → new q ≡ old q

pub trims_entries : {E : Type 0} (r : Result (Unit {0}) E) (shape : Shape) (page place : ℕ) (old new : ℕ → List ℕ) → OnOk r (ClearsAfter shape 2048 page (4 * place) old new) → OnOk r (TrimsEntries shape page place old new)
trims_entries (Ok x) shape page place old new clears = record {
  kept = λ k below. ap (λ (l : List ℕ). number_in l (4 * k)) clears.here ∙ cleared_number_before (old page) (4 * place) (4 * k) (omega arith);
  cleared = λ k from within. ap (λ (l : List ℕ). number_in l (4 * k)) clears.here ∙ cleared_number_past (old page) (4 * place) (4 * k) (omega arith);
  zeros = clears.zeros;
  stay = clears.stay;
}
trims_entries (Err e) shape page place old new clears = tt
