-- The bytes of a page of members past its last slot stay 0.
use Rattle.std.proofs.Common.{Bool, List, ap, arith, false, refl, subst, sym, true, ℕ, ⊎_elim, ◌<◌, ◌∙◌, ◌≡◌, ◌≢◌, ◌≤◌}
use Rattle.std.specs.List.{slice_index}
use Rattle.tx_events.specs.PageOrder.{Offsets, page_precedes}
use Rattle.disk_core.specs.Moments.{run_then}
use Rattle.disk_core.specs.Pages.{Pages, zero_page}
use Rattle.tx_events.specs.Pages.{id_at}
use Rattle.slru_bank.proofs.ZeroBytes.{zero_byte}
use Rattle.slru_bank.specs.Crash.{IsMixture, IsMixtureOrGone, byte_at}
use Rattle.bank_stores.specs.Changes.{TrimsMembers}
use Rattle.recoverable.specs.Bytes.{HasZeroTails, ImageHasZeroTails}
use Rattle.bank_follows.specs.Tails.{KeepsTails, MapKeepsTails}
use Rattle.bank_follows.proofs.Moments.{at_first, then_call}
use Rattle.bank_follows.proofs.WordSetting.{same_or_not}

-- a page as it was, and a page of zeros
kept_tail : (old new : ℕ → List ℕ) (q i : ℕ) → new q ≡ old q → slice_index (old q) i ≡ 0 → slice_index (new q) i ≡ 0
kept_tail old new q i same tail = ap (λ (l : List ℕ). slice_index l i) same ∙ tail

zero_tail : (page : List ℕ) (i : ℕ) → page ≡ zero_page → slice_index page i ≡ 0
zero_tail page i zeros = ap (λ (l : List ℕ). slice_index l i) zeros ∙ zero_byte i

-- the last slot's id ends before them
past_ids : (place i : ℕ) → place < 1636 → 8180 ≤ i → id_at place ≤ i
past_ids place i within past = omega arith

trims : (old new : ℕ → List ℕ) (page place : ℕ) → place < 1636 → TrimsMembers page place old new → HasZeroTails old → HasZeroTails new
trims old new page place within trim tails q i small past =
    let order : (b : Bool) → page_precedes Offsets 1636 page q ≡ b → q ≢ page → slice_index (new q) i ≡ 0 = elim [
      | true ↦ λ after away. zero_tail (new q) i (trim.zeros q small after)
      | false ↦ λ before away. kept_tail old new q i (trim.stay q away before) (tails q i small past)
    ] in
    ⊎_elim
    (λ (here : q ≡ page). subst (λ z. slice_index (new z) i ≡ 0) (sym here) (trim.past i (past_ids place i within past)))
    (order (page_precedes Offsets 1636 page q) refl)
    (same_or_not q page)

map_keeps_tails : (old new : ℕ → List ℕ) → MapKeepsTails old new
map_keeps_tails old new = record {
  same = λ same tails q i small past. kept_tail old new q i (same q) (tails q i small past);
  makes = λ page puts tails q i small past. ⊎_elim
      (λ (here : q ≡ page). zero_tail (new q) i (ap new here ∙ puts.here))
      (λ (away : q ≢ page). kept_tail old new q i (puts.others q away) (tails q i small past))
      (same_or_not q page);
  sets = λ page place byte number sets tails q i small past. ⊎_elim
      (λ (here : q ≡ page). subst (λ z. slice_index (new z) i ≡ slice_index (old z) i) (sym here) (sets.tail i past) ∙ tails q i small past)
      (λ (away : q ≢ page). kept_tail old new q i (sets.others q away) (tails q i small past))
      (same_or_not q page);
  trims = λ page place within trim tails. trims old new page place within trim tails;
  drops = λ gone drop tails q i small past. ⊎_elim (zero_tail (new q) i) (λ (same : new q ≡ old q). kept_tail old new q i same (tails q i small past)) (drop.zero_or_same q);
}

mixed_tails : (m : ℕ → List ℕ) (c d : Pages) → HasZeroTails m → IsMixture m m c d → ImageHasZeroTails c → ImageHasZeroTails d
mixed_tails m c d map mixture image q i small past =
    ⊎_elim
    (λ (h : byte_at d q i ≡ byte_at c q i). h ∙ image q i small past)
    (⊎_elim (λ (h : byte_at d q i ≡ slice_index (m q) i). h ∙ map q i small past) (λ (h : byte_at d q i ≡ slice_index (m q) i). h ∙ map q i small past))
    (mixture.each q i)

gone_tails : (gone : ℕ → Bool) (m : ℕ → List ℕ) (c d : Pages) → HasZeroTails m → IsMixtureOrGone gone m m c d → ImageHasZeroTails c → ImageHasZeroTails d
gone_tails gone m c d map mixture image q i small past =
    let as_map : byte_at d q i ≡ slice_index (m q) i → byte_at d q i ≡ 0 = λ h. h ∙ map q i small past in
    ⊎_elim
    (λ (h : byte_at d q i ≡ byte_at c q i). h ∙ image q i small past)
    (⊎_elim as_map (⊎_elim as_map (λ (h : (gone q ≡ true) × (byte_at d q i ≡ 0)). h.1)))
    (mixture.each q i)

module _ {D : Type 0} (images : D → Pages → Type 0) (moment : D → ℕ) (left_at : D → ℕ → Pages → Type 0) where
  pub keeps_tails : KeepsTails images moment left_at
  keeps_tails = record {
    map = map_keeps_tails;
    calls = λ m d0 d1 map only_now tails call.
        then_call images moment left_at ImageHasZeroTails (IsMixture m m) d0 d0 d1 (λ c d step. mixed_tails m c d map step) (at_first images moment left_at ImageHasZeroTails d0 only_now tails) call;
    removes = λ gone m d0 d1 map only_now tails call.
        then_call images moment left_at ImageHasZeroTails (IsMixtureOrGone gone m m) d0 d0 d1 (λ c d step. gone_tails gone m c d map step) (at_first images moment left_at ImageHasZeroTails d0 only_now tails) call;
    joins = λ d0 d1 d2 first second. record {
      now = second.now;
      each = run_then moment left_at d0 d1 d2 ImageHasZeroTails ImageHasZeroTails first.each second.each (λ c tails. tails);
    };
  }
