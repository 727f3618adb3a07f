-- Limits in order, and a search of them.
use Rattle.std.proofs.Common.{◌≡◌, ℕ, zero, suc, ◌+◌, ◌-◌, ◌<◌, ◌≤◌, ◌↔◌, ◌⊎◌, Bool, true, false, ◌==◌, ◌&&◌, ◌||◌, nat_lt, cond, Less, Equal, Greater, List, [], ◌∷◌, ◌++◌, length, get_or, take, refl, sym, ap, subst, ◌∙◌, inl, inr, ⊎_elim, arith, eqb-true}
use Rattle.std.specs.List.{Contains, slice_index_or}
use Rattle.std.specs.List.Sorted.{IsPermutation, IsSorted}
use Rattle.std.specs.Ordering.{is_lt, nat_cmp, ordering_then}
use Rattle.std.specs.declared.cmp.Ordering.{Ordering}
use Rattle.std.proofs.lemmas.Bool.{cases_lt, false≢true}
use Rattle.std.proofs.lemmas.Bool.Decides.{nat_tests}
use Rattle.std.proofs.lemmas.List.Sorted.{Contains-permutation, IsPermutation-sym}
use Rattle.std.proofs.Math.ListN.{get_or-append}
use Rattle.std.proofs.Math.Seq.{get_or-append_seam}
use Rattle.tx_events.specs.declared.multi.MultiEvent.{MultiEvent}
use Rattle.tx_events.specs.declared.record.Counters.{Counters}
use Rattle.tx_events.specs.Multis.{pin_limit}
use Rattle.report_law.specs.MultiLines.{IsHeldBack}
use Rattle.report_law.specs.Places.{MayReadMultis}
use Rattle.multi_rules.specs.declared.limits.LimitAt.{LimitAt}
use Rattle.multi_rules.specs.Limits.{AreHeldLimits, AreInOrder, AreLimitsBelow, Holding, IsLimitAt, IsLimitWithin, IsUpto, is_before}

-- ---- as a sort leaves them

abbrev pub limit_cmp : LimitAt → LimitAt → Ordering
limit_cmp a b = ordering_then (nat_cmp a.limit b.limit) (nat_cmp a.place b.place)

not_less : (x y u v : ℕ) → is_lt (ordering_then (nat_cmp x y) (nat_cmp u v)) ≡ false → (y < x) ⊎ ((y ≡ x) × (v ≤ u))
not_less x y u v e = one (nat_lt x y) (x == y) (nat_lt u v) refl refl refl e
  where
    one : (a b c : Bool) → nat_lt x y ≡ a → (x == y) ≡ b → nat_lt u v ≡ c → is_lt (ordering_then (cond a Less (cond b Equal Greater)) (cond c Less (cond (u == v) Equal Greater))) ≡ false → (y < x) ⊎ ((y ≡ x) × (v ≤ u))
    one true b c p q r e = absurd (false≢true (sym e))
    one false true true p q r e = absurd (false≢true (sym e))
    one false true false p q r e = let l : v ≤ u = grind (arith, nat_tests) in inr (sym (eqb-true x y q), l)
    one false false c p q r e = let l : y < x = grind (arith, nat_tests) in inl l

upto_trans : (a b c : LimitAt) → IsUpto a b → IsUpto b c → IsUpto a c
upto_trans a b c (inl l) (inl m) = inl (omega arith)
upto_trans a b c (inl l) (inr m) = let e = m.0 in inl (omega arith)
upto_trans a b c (inr l) (inl m) = let e = l.0 in inl (omega arith)
upto_trans a b c (inr l) (inr m) = let e = l.0 in let f = m.0 in let g = l.1 in let h = m.1 in inr (omega arith, omega arith)

pub in_order : (limits : List LimitAt) → IsSorted limit_cmp limits → AreInOrder limits
in_order limits sorted i zero d l m = let z : i ≡ 0 = omega arith in subst (λ k. IsUpto (slice_index_or limits k d) (slice_index_or limits 0 d)) (sym z) (inr (refl, omega arith))
in_order limits sorted i (suc j) d l m = ⊎_elim
    (λ (u : i < suc j).
    let before = in_order limits sorted i j d (omega arith) (omega arith) in
    let n : j + 1 ≡ suc j = omega arith in
    let s : is_lt (limit_cmp (slice_index_or limits (suc j) d) (slice_index_or limits j d)) ≡ false =
    subst (λ k. is_lt (limit_cmp (slice_index_or limits k d) (slice_index_or limits j d)) ≡ false) n (sorted j d (omega arith) (omega arith)) in
    let last : IsUpto (slice_index_or limits j d) (slice_index_or limits (suc j) d) = not_less (slice_index_or limits (suc j) d).limit (slice_index_or limits j d).limit (slice_index_or limits (suc j) d).place (slice_index_or limits j d).place s in
    upto_trans (slice_index_or limits i d) (slice_index_or limits j d) (slice_index_or limits (suc j) d) before last)
    (λ (u : suc j ≤ i).
    let z : i ≡ suc j = omega arith in
    subst (λ k. IsUpto (slice_index_or limits k d) (slice_index_or limits (suc j) d)) (sym z) (inr (refl, omega arith)))
    (cases_lt i (suc j))

-- ---- those of all places

module _ (base : Counters) (h : List MultiEvent) where
  pub limits_start : (at : LimitAt) → IsLimitAt base h 0 at → AreLimitsBelow base h 1 (at ∷ [])
  limits_start at is = record { size = refl; each = λ p l d. let z : p ≡ 0 = omega arith in subst (λ k. IsLimitAt base h k (get_or (at ∷ []) k d)) (sym z) is }

  pub limits_push : (n : ℕ) (limits : List LimitAt) (at : LimitAt) → AreLimitsBelow base h n limits → IsLimitAt base h n at → AreLimitsBelow base h (n + 1) (limits ++ at ∷ [])
  limits_push n limits at are is = record {
    size = let s = are.size in length_push limits at ∙ (let e : length limits + 1 ≡ n + 1 = omega arith in e);
    each = λ p l d.
        let s = are.size in
        ⊎_elim
        (λ (u : p < n).
        let same : get_or (limits ++ at ∷ []) p d ≡ get_or limits p d = get_or-append limits (at ∷ []) d p (omega arith) in
        subst (λ (x : LimitAt). IsLimitAt base h p x) (sym same) (are.each p u d))
        (λ (u : n ≤ p).
        let z : p ≡ length limits = omega arith in
        let same : get_or (limits ++ at ∷ []) p d ≡ at = ap (λ k. get_or (limits ++ at ∷ []) k d) z ∙ get_or-append_seam limits at [] d in
        let w : n ≡ p = omega arith in
        subst (λ (x : LimitAt). IsLimitAt base h p x) (sym same) (subst (λ k. IsLimitAt base h k at) w is))
        (cases_lt p n);
  }
    where
      length_push : (limits : List LimitAt) (at : LimitAt) → length (limits ++ at ∷ []) ≡ length limits + 1
      length_push [] at = refl
      length_push (x ∷ limits) at = let r = length_push limits at in omega arith

  along_each : (n : ℕ) (limits : List LimitAt) → AreLimitsBelow base h n limits → (at : LimitAt) → Contains limits at ↔ ((at.place < n) × (at.limit ≡ pin_limit base.multi (take at.place h)))
  along_each n limits are at = (
    λ k.
        let s = are.size in
        let b = k.1 in
        let is : IsLimitAt base h k.0 at = subst (λ (x : LimitAt). IsLimitAt base h k.0 x) k.2 (are.each k.0 (omega arith) at) in
        let z = is.0 in
        (omega arith, is.1 ∙ ap (λ p. pin_limit base.multi (take p h)) (sym z)),
    λ z.
        let s = are.size in
        let l = z.0 in
        let is = are.each at.place l at in
        let same : get_or limits at.place at ≡ at = one (get_or limits at.place at) (is.0) (is.1 ∙ sym z.1) in
        (at.place, omega arith, same),
  )
    where
      one : (x : LimitAt) → x.place ≡ at.place → x.limit ≡ at.limit → x ≡ at
      one x p l = ap (λ (n : ℕ). record { limit = n; place = x.place }) l ∙ ap (λ (n : ℕ). record { limit = at.limit; place = n }) p

  pub held_sorted : (along limits : List LimitAt) → AreLimitsBelow base h (length h + 1) along → IsPermutation along limits → IsSorted limit_cmp limits → AreHeldLimits base h limits
  held_sorted along limits are same sorted = record {
    order = λ i j d l m. in_order limits sorted i j d l m;
    each = λ at.
        let e = along_each (length h + 1) along are at in (
          λ k. let z = e.0 (Contains-permutation limits along at (IsPermutation-sym along limits same) k) in let l = z.0 in (omega arith, z.1),
          λ z. let l = z.0 in Contains-permutation along limits at same (e.1 (omega arith, z.1)),
        );
  }

-- ---- a search

before_yes : (n p x y : ℕ) → (nat_lt x n || ((x == n) && nat_lt y p)) ≡ true → (x < n) ⊎ ((x ≡ n) × (y < p))
before_yes n p x y e = one (nat_lt x n) (x == n) (nat_lt y p) refl refl refl e
  where
    one : (a b c : Bool) → nat_lt x n ≡ a → (x == n) ≡ b → nat_lt y p ≡ c → (a || (b && c)) ≡ true → (x < n) ⊎ ((x ≡ n) × (y < p))
    one true b c i j k e = let l : x < n = grind (arith, nat_tests) in inl l
    one false true true i j k e = let l : y < p = grind (arith, nat_tests) in inr (eqb-true x n j, l)
    one false true false i j k e = absurd (false≢true e)
    one false false c i j k e = absurd (false≢true e)

before_is : (n p x y : ℕ) → (x < n) ⊎ ((x ≡ n) × (y < p)) → (nat_lt x n || ((x == n) && nat_lt y p)) ≡ true
before_is n p x y (inl l) = grind (arith, nat_tests)
before_is n p x y (inr z) = let a = z.0 in let b = z.1 in grind (arith, nat_tests)

pub parted : (limits : List LimitAt) (n p : ℕ) → AreInOrder limits → (i j : ℕ) (d : LimitAt) → i ≤ j → j < length limits → is_before n p (slice_index_or limits j d) ≡ true → is_before n p (slice_index_or limits i d) ≡ true
parted limits n p order i j d l m e = both (slice_index_or limits i d) (slice_index_or limits j d) (order i j d l m) (before_yes n p (slice_index_or limits j d).limit (slice_index_or limits j d).place e)
  where
    both : (a b : LimitAt) → IsUpto a b → (b.limit < n) ⊎ ((b.limit ≡ n) × (b.place < p)) → is_before n p a ≡ true
    both a b (inl u) (inl v) = before_is n p a.limit a.place (inl (omega arith))
    both a b (inl u) (inr v) = let w = v.0 in before_is n p a.limit a.place (inl (omega arith))
    both a b (inr u) (inl v) = let w = u.0 in before_is n p a.limit a.place (inl (omega arith))
    both a b (inr u) (inr v) = let w = u.0 in let x = u.1 in let y = v.0 in let z = v.1 in before_is n p a.limit a.place (inr (omega arith, omega arith))

module _ (limits : List LimitAt) (n from to first : ℕ) (order : AreInOrder limits)
    (below : (k : ℕ) (d : LimitAt) → 0 ≤ k → k < first → is_before n from (slice_index_or limits k d) ≡ true)
    (behind : (k : ℕ) (d : LimitAt) → first ≤ k → k < length limits → is_before n from (slice_index_or limits k d) ≡ false) where
  -- one that is sought isn't before the first
  sought_at : IsLimitWithin limits n from to → (k : ℕ) × (d : LimitAt) × (first ≤ k) × (k < length limits) × ((get_or limits k d).limit ≡ n) × (from ≤ (get_or limits k d).place) × ((get_or limits k d).place ≤ to)
  sought_at z =
      let at = z.0 in let k = z.1.0 in
      let same : get_or limits k at ≡ at = z.1.2 in
      let a : (get_or limits k at).limit ≡ n = ap (λ (x : LimitAt). x.limit) same ∙ z.2 in
      let p : (get_or limits k at).place ≡ at.place = ap (λ (x : LimitAt). x.place) same in
      let b = z.3 in let c = z.4 in
      let from_first : first ≤ k = ⊎_elim
      (λ (u : k < first).
      let t = before_yes n from (get_or limits k at).limit (get_or limits k at).place (below k at (omega arith) u) in
      ⊎_elim (λ (v : (get_or limits k at).limit < n). absurd (omega arith)) (λ (v : ((get_or limits k at).limit ≡ n) × ((get_or limits k at).place < from)). let w = v.1 in absurd (omega arith)) t)
      (λ (u : first ≤ k). u)
      (cases_lt k first) in
      (k, at, from_first, z.1.1, a, omega arith, omega arith)

  pub within_iff : (at : LimitAt) → first < length limits → ((d : LimitAt) → at ≡ get_or limits first d) → ((at.limit ≡ n) × (at.place ≤ to)) ↔ IsLimitWithin limits n from to
  within_iff at m is =
      let out : is_before n from at ≡ false = subst (λ (x : LimitAt). is_before n from x ≡ false) (sym (is at)) (behind first at (omega arith) m) in (
        λ z.
            let l = z.0 in
            let late : from ≤ at.place = ⊎_elim
            (λ (u : at.place < from). absurd (false≢true (sym out ∙ before_is n from at.limit at.place (inr (l, u)))))
            (λ (u : from ≤ at.place). u)
            (cases_lt at.place from) in
            (at, (first, m, sym (is at)), l, late, z.1),
        λ w.
            let s = sought_at w in
            let x = get_or limits s.0 s.1 in
            let here : get_or limits first s.1 ≡ at = sym (is s.1) in
            let u : IsUpto at x = subst (λ (y : LimitAt). IsUpto y x) here (order first s.0 s.1 s.2 s.3) in
            let a : x.limit ≡ n = s.4 in
            let b = s.6 in
            one at x out u a b,
      )
    where
      one : (at x : LimitAt) → is_before n from at ≡ false → IsUpto at x → x.limit ≡ n → x.place ≤ to → (at.limit ≡ n) × (at.place ≤ to)
      one at x out (inl u) a b = absurd (false≢true (sym out ∙ before_is n from at.limit at.place (inl (omega arith))))
      one at x out (inr u) a b = let c = u.0 in let d = u.1 in (omega arith, omega arith)

  pub not_within : length limits ≤ first → IsLimitWithin limits n from to → ⊥
  not_within l w = let s = sought_at w in let a = s.2 in let b = s.3 in omega arith

-- ---- the rule

pub held_iff : (h : Holding) (limits : List LimitAt) (from to multi limit : ℕ) → AreHeldLimits h.base h.events limits
    → ((p : ℕ) → MayReadMultis h.events h.round (record h.by { command = h.by.command - 1 }) p ↔ ((from ≤ p) × (p ≤ to))) → to ≤ length h.events → limit < multi
    → IsLimitWithin limits limit from to ↔ IsHeldBack h.base h.events h.round h.by multi limit
held_iff h limits from to multi limit are read within past = (
  λ w.
      let at = w.0 in
      let e = (are.each at).0 w.1 in
      record { place = at.place; read = (read at.place).1 (w.3, w.4); limit_is = sym w.2 ∙ e.1; past = past },
  λ i.
      let r = (read i.place).0 i.read in
      let b = r.1 in
      let at : LimitAt = record { limit = limit; place = i.place } in
      (at, (are.each at).1 (omega arith, i.limit_is), refl, r.0, r.1),
)
