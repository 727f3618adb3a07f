-- How often each pin is counted, by its key.
use Rattle.tx_events.proofs.ListSteps.{le_or_over}
use Rattle.std.proofs.Common.{ne_eqb, ◌≡◌, ℕ, zero, suc, ◌+◌, ◌-◌, ◌<◌, ◌≤◌, List, [], ◌∷◌, ◌++◌, Contains, refl, sym, ap, ◌∙◌, ⊎_elim, arith, Bool, true, false, ◌&&◌, ◌==◌, cond, map, min, not, Less, Equal, Greater}
use Rattle.std.specs.BTreeMap.{is_at}
use Rattle.std.specs.Cmp.{nat_cmp_is}
use Rattle.std.specs.List.{fold}
use Rattle.std.specs.Ordering.{nat_cmp, ordering_then, is_eq, is_gt}
use Rattle.std.specs.declared.cmp.Ordering.{Ordering}
use Rattle.tx_events.specs.Multis.{Pin, same_pin, without_pin}
use Rattle.tx_events.proofs.Extremes.{fold_min_start, fold_min_has, fold_min_above}
use Rattle.tx_events.proofs.Membership.{Has, contains_has, has_contains, map_has, has_map}
use Rattle.multi_store.specs.declared.pins.PinKey.{PinKey}
use Rattle.counted_map.specs.Counts.{with_count}
use Rattle.counted_map.proofs.Counted.{cmp_eq}
use Rattle.multi_store.specs.Pins.{pin_of, pin_cmp}
use Rattle.multi_store.proofs.Counts.{count, one_if, same_refl, same_equal, count_push, has_count, count_has, count_without, none_counts}

-- keys compare as pins
then_eq : (x y : Ordering) → is_eq (ordering_then x y) ≡ (is_eq y && is_eq x)
then_eq Less Less = refl
then_eq Less Equal = refl
then_eq Less Greater = refl
then_eq Equal Less = refl
then_eq Equal Equal = refl
then_eq Equal Greater = refl
then_eq Greater Less = refl
then_eq Greater Equal = refl
then_eq Greater Greater = refl

pub key_is : (k q : PinKey) → is_at (pin_cmp k) q ≡ same_pin (pin_of k) (pin_of q)
key_is k q =
    then_eq (nat_cmp k.multi q.multi) (nat_cmp k.session q.session)
    ∙ ap (λ b. b && is_eq (nat_cmp k.multi q.multi)) (cmp_eq k.session q.session)
    ∙ ap (λ b. (k.session == q.session) && b) (cmp_eq k.multi q.multi)

then_greater : (x y : Ordering) → x ≡ Greater → is_gt (ordering_then x y) ≡ true
then_greater x y e = ap (λ o. is_gt (ordering_then o y)) e

pub key_le : (k q : PinKey) → is_gt (pin_cmp k q) ≡ false → k.multi ≤ q.multi
key_le k q e =
    ⊎_elim
    (λ (h : k.multi ≤ q.multi). h)
    (λ (h : q.multi < k.multi). absurd (let g : is_gt (pin_cmp k q) ≡ true = then_greater (nat_cmp k.multi q.multi) (nat_cmp k.session q.session) (sym (nat_cmp_is k.multi q.multi Greater h)) in let z : true ≡ false = sym g ∙ e in cc))
    (le_or_over k.multi q.multi)

apart_swap : (p q : Pin) → same_pin p q ≡ false → same_pin q p ≡ false
apart_swap p q f = one (same_pin q p) refl
  where
    one : (b : Bool) → same_pin q p ≡ b → b ≡ false
    one false e = refl
    one true e = absurd (let g : same_pin p q ≡ true = ap (λ (z : Pin). same_pin p z) (same_equal q p e) ∙ same_refl p in let z : true ≡ false = sym g ∙ f in cc)

-- the counts of keys after one pin more, and after one less
pub tally_more : (pins : List Pin) (k q : PinKey) → with_count pin_cmp k (count (pin_of k) pins + 1) (λ z. count (pin_of z) pins) q ≡ count (pin_of q) (pins ++ pin_of k ∷ [])
tally_more pins k q =
    let p : Pin = pin_of k in let r : Pin = pin_of q in
    let m : count r (pins ++ p ∷ []) ≡ count r pins + one_if (same_pin r p) = count_push r p pins in
    let step : (b : Bool) → same_pin p r ≡ b → cond b (count p pins + 1) (count r pins) ≡ count r (pins ++ p ∷ []) = elim [
      | true ↦ λ e.
          let s : count p pins ≡ count r pins = ap (λ z. count z pins) (same_equal p r e) in
          let o : one_if (same_pin r p) ≡ 1 = ap one_if (ap (same_pin r) (same_equal p r e) ∙ same_refl r) in
          omega arith
      | false ↦ λ e. let o : one_if (same_pin r p) ≡ 0 = ap one_if (apart_swap p r e) in omega arith
    ] in
    ap (λ b. cond b (count p pins + 1) (count r pins)) (key_is k q) ∙ step (same_pin p r) refl

pub tally_less : (pins : List Pin) (k q : PinKey) → Contains pins (pin_of k) → with_count pin_cmp k (count (pin_of k) pins - 1) (λ z. count (pin_of z) pins) q ≡ count (pin_of q) (without_pin (pin_of k) pins)
tally_less pins k q has =
    let p : Pin = pin_of k in let r : Pin = pin_of q in
    let m : count r (without_pin p pins) + one_if (same_pin r p) ≡ count r pins = count_without p r pins (contains_has pins p has) in
    let step : (b : Bool) → same_pin p r ≡ b → cond b (count p pins - 1) (count r pins) ≡ count r (without_pin p pins) = elim [
      | true ↦ λ e.
          let s : count p pins ≡ count r pins = ap (λ z. count z pins) (same_equal p r e) in
          let o : one_if (same_pin r p) ≡ 1 = ap one_if (ap (same_pin r) (same_equal p r e) ∙ same_refl r) in
          omega arith
      | false ↦ λ e. let o : one_if (same_pin r p) ≡ 0 = ap one_if (apart_swap p r e) in omega arith
    ] in
    ap (λ b. cond b (count p pins - 1) (count r pins)) (key_is k q) ∙ step (same_pin p r) refl

is_positive : (n : ℕ) → not (n == 0) ≡ true → 1 ≤ n
is_positive zero e = absurd cc
is_positive (suc n) e = omega arith

positive_is : (n : ℕ) → 1 ≤ n → not (n == 0) ≡ true
positive_is n h = ap not (ne_eqb n 0 (λ (e : n ≡ 0). omega arith))

pub tally_has : (pins : List Pin) (p : Pin) → not (count p pins == 0) ≡ true → Contains pins p
tally_has pins p e = has_contains pins p (count_has p pins (is_positive (count p pins) e))

pub has_tally : (pins : List Pin) (p : Pin) → Contains pins p → not (count p pins == 0) ≡ true
has_tally pins p c = positive_is (count p pins) (has_count p pins (contains_has pins p c))

-- with no key there is no pin
pub tally_none : (pins : List Pin) → ((k : PinKey) → count (pin_of k) pins ≡ 0) → pins ≡ []
tally_none pins none = none_counts pins (λ p. none (record { multi = p.1; session = p.0 }))

-- the least pin is that of the least key
pub tally_least : (pins : List Pin) (k : PinKey) (next : ℕ) → 1 ≤ count (pin_of k) pins → ((q : PinKey) → 1 ≤ count (pin_of q) pins → is_gt (pin_cmp k q) ≡ false)
    → fold min next (map (λ (p : Pin). p.1) pins) ≡ min next k.multi
tally_least pins k next here least =
    let ms : List ℕ = map (λ (p : Pin). p.1) pins in
    let p : Pin = pin_of k in
    let h : Has ms k.multi = map_has (λ (q : Pin). q.1) pins p (count_has p pins here) in
    let a : fold min next ms ≤ next = fold_min_start next ms in
    let b : fold min next ms ≤ k.multi = fold_min_has next ms k.multi h in
    let l : min next k.multi ≤ fold min next ms =
    fold_min_above next (min next k.multi) ms (omega arith)
    (λ m i.
    let r = has_map (λ (q : Pin). q.1) pins m i in
    let q : PinKey = record { multi = r.0.1; session = r.0.0 } in
    let le : k.multi ≤ r.0.1 = key_le k q (least q (has_count r.0 pins r.1)) in
    let same : r.0.1 ≡ m = r.2 in
    omega arith) in
    omega arith
