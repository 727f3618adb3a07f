-- In which slot each place stands.
use Rattle.std.proofs.Common.{◌≡◌, ◌≢◌, ℕ, ◌+◌, ◌<◌, ◌≤◌, List, [], ◌∷◌, length, get_or, set, take, ap, sym, subst, ◌∙◌, arith, ⊎_elim, cond, ◌==◌, nat_lt, ◌-◌}
use Rattle.std.specs.List.{All, between, count_by}
use Rattle.std.proofs.lemmas.Bool.{cases_lt}
use Rattle.std.proofs.lemmas.Bool.Decides.{nat_tests}
use Rattle.std.proofs.lemmas.List.{get_or-set_other, get_or-set_same, same_lists, take-take}
use Rattle.std.proofs.lemmas.Grind.{get_or_default_zero}
use Rattle.std.proofs.lemmas.List.Edits.{get_or-between, length-between}
use Rattle.std.proofs.lemmas.List.Sums.{count_by-le-length, count_by_more_yes, sum_by-cons, sum_by-take-le}
use Rattle.std.proofs.Math.Seq.{take-length}
use Rattle.tx_events.proofs.ListSteps.{eqb-refl}
use Rattle.place_columns.specs.Lined.{places_of}
use Rattle.place_columns.specs.Tables.{AreCounts, ArePlaced, AreRanks, slot_of}
use Rattle.place_columns.proofs.CountingLines.{count_next}
use Rattle.place_columns.proofs.Placing.{IsRanked, length_places, place_tells}

abbrev below : ℕ → List ℕ → ℕ
below n ks = count_by (λ k. nat_lt k n) ks

abbrev often : ℕ → List ℕ → ℕ
often n ks = count_by (λ k. k == n) ks

below_rises : (a b k : ℕ) → a ≤ b → cond (nat_lt k a) 1 0 ≤ cond (nat_lt k b) 1 0
below_rises a b k l = grind (arith, nat_tests)

pub below_upto : (a b : ℕ) (ks : List ℕ) → a ≤ b → below a ks ≤ below b ks
below_upto a b [] l = omega arith
below_upto a b (k ∷ ks) l =
    let one = below_rises a b k l in
    let rest = below_upto a b ks l in
    let x = sum_by-cons (λ j. cond (nat_lt j a) 1 0) k ks in
    let y = sum_by-cons (λ j. cond (nat_lt j b) 1 0) k ks in
    omega arith

-- a number stands once more behind its place
pub rank_below : (ks : List ℕ) (q p : ℕ) → q < p → p ≤ length ks → often (get_or ks q 0) (take q ks) + 1 ≤ often (get_or ks q 0) (take p ks)
rank_below ks q p l m =
    let k : ℕ = get_or ks q 0 in
    let more : often k (take (q + 1) ks) ≡ often k (take q ks) + 1 = count_by_more_yes (λ j. j == k) ks q 0 (omega arith) (eqb-refl k) in
    let front : take (q + 1) (take p ks) ≡ take (q + 1) ks = take-take (q + 1) p ks (omega arith) in
    let fewer : often k (take (q + 1) (take p ks)) ≤ often k (take p ks) = sum_by-take-le (λ j. cond (j == k) 1 0) (take p ks) (q + 1) in
    let upto : often k (take (q + 1) ks) ≤ often k (take p ks) = subst (λ (t : List ℕ). often k t ≤ often k (take p ks)) front fewer in
    omega arith

module _ (ks counts ranks : List ℕ) (counted : AreCounts ks (length counts) counts) (ranked : AreRanks ks ranks) (within : All (λ k. k + 1 < length counts) ks) where
  abbrev slot : ℕ → ℕ
  slot p = slot_of ks counts ranks p

  slot_is : (p : ℕ) → p < length ks → slot p ≡ below (get_or ks p 0) ks + often (get_or ks p 0) (take p ks)
  slot_is p l =
      let fits : get_or ks p 0 + 1 < length counts = within p 0 l in
      let a = counted.each (get_or ks p 0) (omega arith) in
      let b = ranked.each p l in
      omega arith

  -- it is below those of the next number
  slot_below : (p : ℕ) → p < length ks → slot p < below (get_or ks p 0 + 1) ks
  slot_below p l =
      let is = slot_is p l in
      let next = count_next (get_or ks p 0) ks in
      let rank = rank_below ks p (length ks) l (omega arith) in
      let whole : often (get_or ks p 0) (take (length ks) ks) ≡ often (get_or ks p 0) ks = ap (λ (t : List ℕ). often (get_or ks p 0) t) (take-length ks) in
      omega arith

  pub slot_within : (p : ℕ) → p < length ks → slot p < length ks
  slot_within p l =
      let a = slot_below p l in
      let b = count_by-le-length (λ k. nat_lt k (get_or ks p 0 + 1)) ks in
      omega arith

  lower : (q p : ℕ) → q < length ks → p < length ks → get_or ks q 0 < get_or ks p 0 → slot q < slot p
  lower q p l m less =
      let a = slot_below q l in
      let b = below_upto (get_or ks q 0 + 1) (get_or ks p 0) ks (omega arith) in
      let c = slot_is p m in
      omega arith

  earlier : (q p : ℕ) → q < p → p < length ks → get_or ks q 0 ≡ get_or ks p 0 → slot q < slot p
  earlier q p l m same =
      let a = slot_is q (omega arith) in
      let b : slot p ≡ below (get_or ks q 0) ks + often (get_or ks q 0) (take p ks) = slot_is p m ∙ ap (λ k. below k ks + often k (take p ks)) (sym same) in
      let c = rank_below ks q p l (omega arith) in
      omega arith

  pub slots_apart : (q p : ℕ) → q < p → p < length ks → slot q ≢ slot p
  slots_apart q p l m e =
      ⊎_elim
      (λ (u : get_or ks q 0 < get_or ks p 0). let a = lower q p (omega arith) m u in absurd (omega arith))
      (λ (u : get_or ks p 0 ≤ get_or ks q 0).
      ⊎_elim
      (λ (v : get_or ks p 0 < get_or ks q 0). let a = lower p q m (omega arith) v in absurd (omega arith))
      (λ (v : get_or ks q 0 ≤ get_or ks p 0). let a = earlier q p l m (omega arith) in absurd (omega arith))
      (cases_lt (get_or ks p 0) (get_or ks q 0)))
      (cases_lt (get_or ks q 0) (get_or ks p 0))

  -- one place more
  pub placed_more : (n : ℕ) (places : List ℕ) → n < length ks → length places ≡ length ks → ((q : ℕ) → q < n → get_or places (slot q) 0 ≡ q) → (q : ℕ) → q < n + 1 → get_or (set places (slot n) n) (slot q) 0 ≡ q
  placed_more n places l size before = λ q m.
      ⊎_elim
      (λ (u : q < n). get_or-set_other places (slot n) (slot q) n 0 (slots_apart q n u l) ∙ before q u)
      (λ (u : n ≤ q).
      let here : n ≡ q = omega arith in
      let fits = slot_within n l in
      ap (λ j. get_or (set places (slot n) n) (slot j) 0) (sym here) ∙ get_or-set_same places (slot n) n 0 (omega arith) ∙ here)
      (cases_lt q n)

  -- where the slots of a number begin and end
  pub slots_from : (i : ℕ) → i + 1 < length counts → get_or counts (i + 1) 0 ≡ get_or counts i 0 + length (places_of i ks)
  slots_from i l =
      let a = counted.each i (omega arith) in
      let b = counted.each (i + 1) l in
      let c = count_next i ks in
      let d = length_places i 0 ks in
      omega arith

  pub slots_upto : (i : ℕ) → i + 1 < length counts → get_or counts (i + 1) 0 ≤ length ks
  slots_upto i l =
      let b = counted.each (i + 1) l in
      let c = count_by-le-length (λ k. nat_lt k (i + 1)) ks in
      omega arith

  pub in_slot : (places : List ℕ) (i r d : ℕ) → ArePlaced ks counts ranks places → i + 1 < length counts → r < length (places_of i ks) → get_or places (get_or counts i 0 + r) 0 ≡ get_or (places_of i ks) r d
  in_slot places i r d placed l m =
      let z : IsRanked i 0 ks r (get_or (places_of i ks) r d) = place_tells i 0 ks r d m in
      let a = counted.each i (omega arith) in
      let own = z.number in
      let its = z.rank in
      let is : slot z.at ≡ below i ks + often i (take z.at ks) = slot_is z.at z.within ∙ ap (λ k. below k ks + often k (take z.at ks)) own in
      let there : get_or counts i 0 + r ≡ slot z.at = omega arith in
      let e = z.is in
      let back : z.at ≡ get_or (places_of i ks) r d = omega arith in
      ap (λ j. get_or places j 0) there ∙ placed.each z.at z.within ∙ back

  -- the slots of a number have its places
  pub slots_are : (places : List ℕ) (i : ℕ) → ArePlaced ks counts ranks places → i + 1 < length counts → between (get_or counts i 0) (get_or counts (i + 1) 0) places ≡ places_of i ks
  slots_are places i placed l =
      let from : ℕ = get_or counts i 0 in
      let end : ℕ = get_or counts (i + 1) 0 in
      let e = slots_from i l in
      let upto = slots_upto i l in
      let size = placed.size in
      let long : length (between from end places) ≡ end - from = length-between places from end (omega arith) in
      same_lists (between from end places) (places_of i ks) (omega arith)
      (λ r d m. get_or-between places from end r d (omega arith) ∙ get_or_default_zero places (from + r) d (omega arith) ∙ in_slot places i r d placed l (omega arith))
