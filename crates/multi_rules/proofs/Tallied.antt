-- How often a multixact is pinned, and the least that is.
use Rattle.std.proofs.Common.{◌≡◌, ℕ, zero, suc, ◌+◌, ◌-◌, ◌^◌, ◌<◌, ◌≤◌, Bool, true, false, ◌==◌, cond, Some, List, [], ◌∷◌, ◌++◌, length, get_or, map, min, take, refl, sym, ap, ◌∙◌, inl, inr, ⊎_elim, arith, eqb-true, length-append}
use Rattle.std.specs.List.{Contains, fold, slice_get}
use Rattle.std.specs.Ordering.{nat_cmp, is_gt}
use Rattle.std.proofs.lemmas.List.{take_more}
use Rattle.std.proofs.lemmas.List.Sums.{sum_by-cons, sum_by-append}
use Rattle.std.proofs.lemmas.Map.Keys.{le_from_not_gt}
use Rattle.tx_events.proofs.Extremes.{fold_min_start, fold_min_has, fold_min_above}
use Rattle.tx_events.proofs.ListSteps.{eqb-refl}
use Rattle.tx_events.proofs.Membership.{Has, contains_has}
use Rattle.tx_events.specs.declared.multi.MultiEvent.{MultiEvent}
use Rattle.tx_events.specs.declared.multi.MultiEvent.TheVariants as multis
use Rattle.tx_events.specs.declared.record.Counters.{Counters}
use Rattle.tx_events.specs.Multis.{AreLegalMultis, BaseOffset, Pin, pins, pins_after, same_pin, without_pin}
use Rattle.counted_map.specs.declared.CountedMap.{CountedMap}
use Rattle.counted_map.specs.Counts.{with_count}
use Rattle.counted_map.proofs.Counted.{cmp_eq}
use Rattle.multi_store.proofs.Counts.{length_without, same_equal, same_refl}
use Rattle.multi_store.proofs.MadeSteps.{pins_push}
use Rattle.multi_rules.specs.Limits.{FitsMore, IsTally, LetsGoHeld, pinned}

abbrev one_if : Bool → ℕ
one_if b = cond b 1 0

pinned_cons : (p : Pin) (ps : List Pin) (m : ℕ) → pinned (p ∷ ps) m ≡ one_if (p.1 == m) + pinned ps m
pinned_cons p ps m = sum_by-cons (λ (q : Pin). one_if (q.1 == m)) p ps

pinned_push : (ps : List Pin) (p : Pin) (m : ℕ) → pinned (ps ++ p ∷ []) m ≡ pinned ps m + one_if (p.1 == m)
pinned_push ps p m =
    let a : pinned (ps ++ p ∷ []) m ≡ pinned ps m + pinned (p ∷ []) m = sum_by-append (λ (q : Pin). one_if (q.1 == m)) ps (p ∷ []) in
    let b : pinned (p ∷ []) m ≡ one_if (p.1 == m) + pinned [] m = pinned_cons p [] m in
    let z : pinned [] m ≡ 0 = refl in
    omega arith

pinned_without : (p : Pin) (ps : List Pin) (m : ℕ) → Has ps p → pinned (without_pin p ps) m + one_if (p.1 == m) ≡ pinned ps m
pinned_without p [] m k = absurd k
pinned_without p (x ∷ ps) m k = one (λ t. pinned_without p ps m t) (same_pin p x) refl
  where
    one : (Has ps p → pinned (without_pin p ps) m + one_if (p.1 == m) ≡ pinned ps m) → (b : Bool) → same_pin p x ≡ b → pinned (cond b ps (x ∷ without_pin p ps)) m + one_if (p.1 == m) ≡ pinned (x ∷ ps) m
    one rest true e =
        let same : one_if (p.1 == m) ≡ one_if (x.1 == m) = ap (λ (q : Pin). one_if (q.1 == m)) (same_equal p x e) in
        let c = pinned_cons x ps m in
        omega arith
    one rest false e =
        let there : Has ps p = ⊎_elim (λ (f : x ≡ p). absurd (let t : true ≡ false = sym (ap (same_pin p) f ∙ same_refl p) ∙ e in cc)) (λ t. t) k in
        let r = rest there in
        let c = pinned_cons x ps m in
        let d = pinned_cons x (without_pin p ps) m in
        omega arith

-- ---- the counts after an event

pub tally_more : (ps : List Pin) (p : Pin) (m : ℕ) → with_count nat_cmp p.1 (pinned ps p.1 + 1) (pinned ps) m ≡ pinned (ps ++ p ∷ []) m
tally_more ps p m = ap (λ b. cond b (pinned ps p.1 + 1) (pinned ps m)) (cmp_eq p.1 m) ∙ one (p.1 == m) refl
  where
    one : (b : Bool) → (p.1 == m) ≡ b → cond b (pinned ps p.1 + 1) (pinned ps m) ≡ pinned (ps ++ p ∷ []) m
    one true e =
        let c = pinned_push ps p m in
        let o : one_if (p.1 == m) ≡ 1 = ap one_if e in
        let same : pinned ps p.1 ≡ pinned ps m = ap (pinned ps) (eqb-true p.1 m e) in
        omega arith
    one false e = let c = pinned_push ps p m in let o : one_if (p.1 == m) ≡ 0 = ap one_if e in omega arith

pub tally_less : (ps : List Pin) (p : Pin) (m : ℕ) → Contains ps p → with_count nat_cmp p.1 (pinned ps p.1 - 1) (pinned ps) m ≡ pinned (without_pin p ps) m
tally_less ps p m k = ap (λ b. cond b (pinned ps p.1 - 1) (pinned ps m)) (cmp_eq p.1 m) ∙ one (p.1 == m) refl
  where
    one : (b : Bool) → (p.1 == m) ≡ b → cond b (pinned ps p.1 - 1) (pinned ps m) ≡ pinned (without_pin p ps) m
    one true e =
        let c = pinned_without p ps m (contains_has ps p k) in
        let o : one_if (p.1 == m) ≡ 1 = ap one_if e in
        let same : pinned ps p.1 ≡ pinned ps m = ap (pinned ps) (eqb-true p.1 m e) in
        omega arith
    one false e = let c = pinned_without p ps m (contains_has ps p k) in let o : one_if (p.1 == m) ≡ 0 = ap one_if e in omega arith

pinned_most : (ps : List Pin) (m : ℕ) → pinned ps m ≤ length ps
pinned_most [] m = omega arith
pinned_most (p ∷ ps) m =
    let c : pinned (p ∷ ps) m ≡ one_if (p.1 == m) + pinned ps m = pinned_cons p ps m in
    let r = pinned_most ps m in
    let o = at_most (p.1 == m) in
    omega arith
  where
    at_most : (b : Bool) → one_if b ≤ 1
    at_most true = omega arith
    at_most false = omega arith

-- one more fits
pub more_fits : (ps : List Pin) (counts : CountedMap ℕ) (e : MultiEvent) → IsTally ps counts → length ps + 1 < 2 ^ 64 → FitsMore counts e
more_fits ps counts (multis.Gen by multi offset members) t l = tt
more_fits ps counts (multis.Hold by multi) t l = let a = pinned_most ps multi in let e = t.each multi in omega arith
more_fits ps counts (multis.Unhold by multi) t l = tt
more_fits ps counts (multis.Raise by multi offset) t l = tt

-- ---- the least

has_pinned : (ps : List Pin) (m : ℕ) → Has (map (λ (p : Pin). p.1) ps) m → 1 ≤ pinned ps m
has_pinned [] m k = absurd k
has_pinned (p ∷ ps) m k =
    let c : pinned (p ∷ ps) m ≡ one_if (p.1 == m) + pinned ps m = pinned_cons p ps m in
    ⊎_elim
    (λ (e : p.1 ≡ m). let o : one_if (p.1 == m) ≡ 1 = ap one_if (ap (λ z. z == m) e ∙ eqb-refl m) in omega arith)
    (λ t. let i : 1 ≤ pinned ps m = has_pinned ps m t in omega arith)
    k

pinned_has : (ps : List Pin) (m : ℕ) → 1 ≤ pinned ps m → Has (map (λ (p : Pin). p.1) ps) m
pinned_has [] m h = absurd (omega arith)
pinned_has (p ∷ ps) m h = one (λ i. pinned_has ps m i) (p.1 == m) refl (pinned_cons p ps m)
  where
    one : (1 ≤ pinned ps m → Has (map (λ (p : Pin). p.1) ps) m) → (b : Bool) → (p.1 == m) ≡ b → pinned (p ∷ ps) m ≡ one_if b + pinned ps m → Has (map (λ (p : Pin). p.1) (p ∷ ps)) m
    one rest true e c = inl (eqb-true p.1 m e)
    one rest false e c = inr (rest (omega arith))

pub least_some : (ps : List Pin) (k next : ℕ) → 1 ≤ pinned ps k → ((m : ℕ) → 1 ≤ pinned ps m → is_gt (nat_cmp k m) ≡ false) → fold min next (map (λ (p : Pin). p.1) ps) ≡ min next k
least_some ps k next here least =
    let ms : List ℕ = map (λ (p : Pin). p.1) ps in
    let a : fold min next ms ≤ next = fold_min_start next ms in
    let b : fold min next ms ≤ k = fold_min_has next ms k (pinned_has ps k here) in
    let l : min next k ≤ fold min next ms = fold_min_above next (min next k) ms (omega arith) (λ m i. let le : k ≤ m = le_from_not_gt _ _ (least m (has_pinned ps m i)) in omega arith) in
    omega arith

pub least_none : (ps : List Pin) (next : ℕ) → ((m : ℕ) → pinned ps m ≡ 0) → fold min next (map (λ (p : Pin). p.1) ps) ≡ next
least_none [] next none = refl
least_none (p ∷ ps) next none =
    let h : 1 ≤ pinned (p ∷ ps) p.1 = has_pinned (p ∷ ps) p.1 (inl refl) in
    let z = none p.1 in
    absurd (omega arith)

-- ---- along a history

length_more : (ps : List Pin) (e : MultiEvent) → LetsGoHeld ps e → length (pins_after ps e) ≤ length ps + 1
length_more ps (multis.Gen by multi offset members) k = omega arith
length_more ps (multis.Hold by multi) k = let l = length-append ps ((by.session, multi) ∷ []) in omega arith
length_more ps (multis.Unhold by multi) k = let l = length_without (by.session, multi) ps (contains_has ps (by.session, multi) k) in omega arith
length_more ps (multis.Raise by multi offset) k = omega arith

stands_at : (h : List MultiEvent) (p : ℕ) (e : MultiEvent) → p < length h → e ≡ get_or h p e → slice_get h p ≡ Some e
stands_at [] p e l i = absurd (omega arith)
stands_at (x ∷ h) zero e l i = ap (λ (x : MultiEvent). Some x) (sym i)
stands_at (x ∷ h) (suc p) e l i = stands_at h p e (omega arith) i

event_at : (h : List MultiEvent) (p : ℕ) → p < length h → (e : MultiEvent) × (e ≡ get_or h p e)
event_at [] p l = absurd (omega arith)
event_at (x ∷ h) zero l = (x, refl)
event_at (x ∷ h) (suc p) l = event_at h p (omega arith)

pub pins_next : (h : List MultiEvent) (p : ℕ) (e : MultiEvent) → p < length h → e ≡ get_or h p e → pins (take (p + 1) h) ≡ pins_after (pins (take p h)) e
pins_next h p e l is = ap pins (take_more h p e l ∙ ap (λ (x : MultiEvent). take p h ++ x ∷ []) (sym is)) ∙ pins_push (take p h) e

module _ (base : Counters) (known : BaseOffset) (h : List MultiEvent) (legal : AreLegalMultis base known h) where
  pub lets_go_held : (p : ℕ) (e : MultiEvent) → p < length h → e ≡ get_or h p e → LetsGoHeld (pins (take p h)) e
  lets_go_held p (multis.Gen by multi offset members) l i = tt
  lets_go_held p (multis.Hold by multi) l i = tt
  lets_go_held p (multis.Unhold by multi) l i = legal p (multis.Unhold by multi) (stands_at h p (multis.Unhold by multi) l i)
  lets_go_held p (multis.Raise by multi offset) l i = tt

  pub pins_most : (p : ℕ) → p ≤ length h → length (pins (take p h)) ≤ p
  pins_most zero l = omega arith
  pins_most (suc p) l =
      let e = event_at h p (omega arith) in
      let r = pins_most p (omega arith) in
      let one = length_more (pins (take p h)) e.0 (lets_go_held p e.0 (omega arith) e.1) in
      let n : suc p ≡ p + 1 = omega arith in
      let m : length (pins (take (suc p) h)) ≡ length (pins_after (pins (take p h)) e.0) = ap (λ k. length (pins (take k h))) n ∙ ap (λ (ps : List Pin). length ps) (pins_next h p e.0 (omega arith) e.1) in
      omega arith
