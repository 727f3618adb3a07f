-- Counters past every base.
use Rattle.tx_events.proofs.IdOrder.{next_above}
use Rattle.std.proofs.Common.{◌≡◌, ◌⊎◌, inl, inr, ℕ, ◌+◌, ◌<◌, ◌≤◌, ◌^◌, max, Bool, true, false, cond, ltb, List, [], ◌∷◌, length, drop, get_or, refl, sym, ap, subst, arith}
use Rattle.std.proofs.lemmas.List.{drop_more}
use Rattle.tx_events.specs.Ids.{low_half, next_id, next_multi}
use Rattle.tx_events.specs.After.{past_ids, ids_of, after_record}
use Rattle.tx_events.specs.declared.record.Rec.{Rec}
use Rattle.tx_events.specs.declared.record.Rec.TheVariants as records
use Rattle.tx_events.specs.declared.multi.Member.{Member}
use Rattle.tx_events.specs.declared.record.Counters.{Counters}
use Rattle.wal_core.specs.BaseTest.{is_base_of}
use Rattle.wal_core.proofs.BaseTests.{base_if}

pub not_base_next : (c : Counters) → 2 ^ 63 ≤ c.next → is_base_of c ≡ false
not_base_next c le = by_value (is_base_of c) refl
  where
    by_value : (v : Bool) → is_base_of c ≡ v → v ≡ false
    by_value false e = refl
    by_value true e = absurd (omega (arith, (base_if c e).next, le))

pub not_base_multi : (c : Counters) → 2 ^ 63 ≤ c.multi → is_base_of c ≡ false
not_base_multi c le = by_value (is_base_of c) refl
  where
    by_value : (v : Bool) → is_base_of c ≡ v → v ≡ false
    by_value false e = refl
    by_value true e = absurd (omega (arith, (base_if c e).multi, le))

pub not_base_offset : (c : Counters) → 2 ^ 63 ≤ c.offset → is_base_of c ≡ false
not_base_offset c le = by_value (is_base_of c) refl
  where
    by_value : (v : Bool) → is_base_of c ≡ v → v ≡ false
    by_value false e = refl
    by_value true e = absurd (omega (arith, (base_if c e).offset, le))

next_multi_above : (m : ℕ) → m < next_multi m
next_multi_above m = by_test (ltb (low_half (m + 1)) 1)
  where
    by_test : (b : Bool) → m < cond b (m + 2) (m + 1)
    by_test true = omega arith
    by_test false = omega arith

pub past_above : (next : ℕ) (ids : List ℕ) → next ≤ past_ids next ids
past_above next [] = omega arith
past_above next (id ∷ ids) = omega (arith, past_above (max next (next_id id)) ids)

-- one id more is past
pub past_one : (next : ℕ) (ids : List ℕ) (i d : ℕ) → i < length ids → past_ids next (drop i ids) ≡ past_ids (max next (next_id (get_or ids i d))) (drop (i + 1) ids)
past_one next ids i d lt = ap (past_ids next) (drop_more ids i d lt)

-- an id that is too far
pub past_far : (next : ℕ) (ids : List ℕ) (i d : ℕ) → i < length ids → 2 ^ 63 ≤ get_or ids i d → 2 ^ 63 < past_ids next (drop i ids)
past_far next ids i d lt far =
    let x : ℕ = get_or ids i d in
    let above : max next (next_id x) ≤ past_ids (max next (next_id x)) (drop (i + 1) ids) = past_above (max next (next_id x)) (drop (i + 1) ids) in
    let e : past_ids next (drop i ids) ≡ past_ids (max next (next_id x)) (drop (i + 1) ids) = past_one next ids i d lt in
    omega (arith, above, e, next_above x, far)

pub past_member : (next : ℕ) (ms : List Member) (i : ℕ) (d : Member) → i < length ms → past_ids next (ids_of (drop i ms)) ≡ past_ids (max next (next_id (get_or ms i d).id)) (ids_of (drop (i + 1) ms))
past_member next ms i d lt = ap (λ (l : List Member). past_ids next (ids_of l)) (drop_more ms i d lt)

pub far_member : (next : ℕ) (ms : List Member) (i : ℕ) (d : Member) → i < length ms → 2 ^ 63 ≤ (get_or ms i d).id → 2 ^ 63 < past_ids next (ids_of (drop i ms))
far_member next ms i d lt far =
    let x : ℕ = (get_or ms i d).id in
    let above : max next (next_id x) ≤ past_ids (max next (next_id x)) (ids_of (drop (i + 1) ms)) = past_above (max next (next_id x)) (ids_of (drop (i + 1) ms)) in
    let e : past_ids next (ids_of (drop i ms)) ≡ past_ids (max next (next_id x)) (ids_of (drop (i + 1) ms)) = past_member next ms i d lt in
    omega (arith, above, e, next_above x, far)

pub multi_not_base : (c : Counters) (multi offset : ℕ) (members : List Member) → (2 ^ 63 < past_ids c.next (ids_of members)) ⊎ ((2 ^ 63 ≤ multi) ⊎ (2 ^ 64 ≤ offset + length members))
    → is_base_of (after_record c (records.Multi multi offset members)) ≡ false
multi_not_base c multi offset members (inl far) = not_base_next (after_record c (records.Multi multi offset members)) (omega (arith, far))
multi_not_base c multi offset members (inr (inl far)) = not_base_multi (after_record c (records.Multi multi offset members)) (omega (arith, far, next_multi_above multi))
multi_not_base c multi offset members (inr (inr far)) = not_base_offset (after_record c (records.Multi multi offset members)) (omega (arith, far))

pub tree_not_base : (c : Counters) (top : ℕ) (subs ids : List ℕ) (r : Rec) → (r ≡ records.Commit top subs) ⊎ (r ≡ records.Abort top subs) → ids ≡ subs → 2 ^ 63 < past_ids c.next (top ∷ ids)
    → is_base_of (after_record c r) ≡ false
tree_not_base c top subs ids r (inl is) same far =
    let here : 2 ^ 63 < past_ids c.next (top ∷ subs) = subst (λ (l : List ℕ). 2 ^ 63 < past_ids c.next (top ∷ l)) same far in
    subst (λ (x : Rec). is_base_of (after_record c x) ≡ false) (sym is) (not_base_next (after_record c (records.Commit top subs)) (omega (arith, here)))
tree_not_base c top subs ids r (inr is) same far =
    let here : 2 ^ 63 < past_ids c.next (top ∷ subs) = subst (λ (l : List ℕ). 2 ^ 63 < past_ids c.next (top ∷ l)) same far in
    subst (λ (x : Rec). is_base_of (after_record c x) ≡ false) (sym is) (not_base_next (after_record c (records.Abort top subs)) (omega (arith, here)))
