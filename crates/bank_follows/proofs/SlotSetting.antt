-- A member that is set is what its entry says.
use Rattle.std.proofs.Common.{Bool, List, ap, arith, cond, false, refl, subst, sym, true, ℕ, ⊎_elim, ◌+◌, ◌%◌, ◌/◌, ◌-◌, ◌==◌, ◌<◌, ◌^◌, ◌≡◌, ◌≢◌}
use Rattle.std.proofs.lemmas.Bool.Decides.{nat_tests}
use Rattle.std.specs.List.{slice_index}
use Rattle.tx_events.specs.Ids.{low_half}
use Rattle.store_pages.specs.Layouts.{member_page_of, member_place_of, mode_place_of}
use Rattle.tx_events.specs.Modes.{mode_number}
use Rattle.recoverable.specs.Bytes.{StoredBytes, byte_of, slot_bytes, slot_place_of}
use Rattle.bank_follows.specs.StoreSets.{MemberSet}
use Rattle.bank_follows.proofs.Bytes.{byte_in, byte_same}
use Rattle.bank_follows.proofs.WordSetting.{in_window, one_near, other_number, own_number, same_or_not}

slot_halves : (a b : ℕ) → a / 1636 ≡ b / 1636 → a % 1636 ≡ b % 1636 → a ≡ b
slot_halves a b p q = omega arith

pub in_four : (i : ℕ) → i < 5 → (i == 4) ≡ false → i < 4
in_four i lt e = grind (arith, nat_tests)

pub member_set : MemberSet
member_set start shown bank by caller offset member old new near sets = record {
  makes_none = refl;
  others = λ x i at lt e.
      let a = in_window start.base.offset x at.near.from at.near.to in let b = in_window start.base.offset offset near.from near.to in
      ⊎_elim
      (λ (here : member_page_of x ≡ member_page_of offset).
      let away : low_half x % 1636 ≢ low_half offset % 1636 = λ q.
      other_number offset x (λ i. slot_bytes member i) e (sym (one_near (start.base.offset + 2 ^ 30 - 2 ^ 32) x offset a.0 a.1 b.0 b.1 (slot_halves (low_half x) (low_half offset) here q))) in
      let slot = sets.same_page (low_half x % 1636) (below (low_half x)) away in
      let step : (t : Bool) → (i == 4) ≡ t → slice_index (new (member_page_of offset)) (cond t (mode_place_of x) (member_place_of x + i)) ≡ slice_index (old (member_page_of offset)) (cond t (mode_place_of x) (member_place_of x + i)) = elim [
        | true ↦ λ q. slot.mode
        | false ↦ λ q. byte_same (old (member_page_of offset)) (new (member_page_of offset)) (member_place_of x) i sets.pages.was.small sets.pages.is.small slot.id (in_four i lt q)
      ] in
      subst (λ q. slice_index (new q) (cond (i == 4) (mode_place_of x) (member_place_of x + i)) ≡ slice_index (old q) (cond (i == 4) (mode_place_of x) (member_place_of x + i))) (sym here) (step (i == 4) refl))
      (λ (there : member_page_of x ≢ member_page_of offset). ap (λ (l : List ℕ). slice_index l (cond (i == 4) (mode_place_of x) (member_place_of x + i))) (sets.others (member_page_of x) there))
      (same_or_not (member_page_of x) (member_page_of offset));
  set = λ x i v at lt e.
      let r = own_number offset x (λ i. slot_bytes member i) v e in
      let step : (t : Bool) → (i == 4) ≡ t → slice_index (new (member_page_of offset)) (cond t (mode_place_of offset) (member_place_of offset + i)) ≡ cond t (mode_number member.mode) (byte_of member.id i) = elim [
        | true ↦ λ q. sets.mode
        | false ↦ λ q. byte_in (new (member_page_of offset)) (member_place_of offset) member.id i sets.pages.is.small sets.id (in_four i lt q)
      ] in
      subst (λ (b : StoredBytes). slice_index (new (member_page_of x)) (slot_place_of x i) ≡ b i) r.1
      (subst (λ z. slice_index (new (member_page_of z)) (slot_place_of z i) ≡ slot_bytes member i) r.0 (step (i == 4) refl));
}
  where
    below : (a : ℕ) → a % 1636 < 1636
    below a = omega arith
