-- How often a key is there, of one key in place and of a map.
use Rattle.std.proofs.Common.{◌≡◌, ℕ, zero, suc, ◌+◌, ◌-◌, ◌≤◌, Bool, true, false, cond, List, [], ◌∷◌, Option, Some, refl, sym, ap, subst, ◌∙◌, arith}
use Rattle.std.specs.Prelude.{IfSome}
use Rattle.std.specs.Option.{unwrap_or}
use Rattle.std.specs.BTreeMap.{BTreeMap, get}
use Rattle.std.specs.Cmp.{IsTotalOrder}
use Rattle.std.proofs.lemmas.Cmp.{alike_right}
use Rattle.std.specs.Map.{lookup}
use Rattle.std.specs.Ordering.{is_eq}
use Rattle.std.specs.declared.cmp.Ordering.{Ordering}
use Rattle.std.specs.declared.cmp.Ordering.TheVariants.{Less, Equal, Greater}
use Rattle.counted_map.specs.declared.CountedMap.{CountedMap}
use Rattle.counted_map.specs.declared.KeyCount.{KeyCount}
use Rattle.counted_map.specs.Counts.{Counts, counted_in, counted_in_place, some_of, with_count}

equal_if : (r : Ordering) → is_eq r ≡ true → r ≡ Equal
equal_if Less e = absurd cc
equal_if Equal e = refl
equal_if Greater e = absurd cc

some_is : (n : ℕ) → unwrap_or (some_of n) 0 ≡ n
some_is zero = refl
some_is (suc n) = refl

module _ {K : Type 0} (cmp : K → K → Ordering) (o : IsTotalOrder cmp) where
  -- equal keys compare the same
  same_left : (a b k : K) → is_eq (cmp a b) ≡ true → cmp a k ≡ cmp b k
  same_left a b k e = o.congr a b k (equal_if (cmp a b) e)

  same_found : (es : List (K × ℕ)) (a b : K) → is_eq (cmp a b) ≡ true → lookup (λ k. is_eq (cmp a k)) es ≡ lookup (λ k. is_eq (cmp b k)) es
  same_found [] a b e = refl
  same_found (x ∷ es) a b e = rw (same_left a b x.0 e) (ap (cond (is_eq (cmp b x.0)) (Some x.1)) (same_found es a b e))

  same_counted : (counts : BTreeMap K ℕ) (a b : K) → is_eq (cmp a b) ≡ true → counted_in cmp counts a ≡ counted_in cmp counts b
  same_counted counts a b e = ap (λ n. unwrap_or n 0) (same_found counts.entries a b e)

  -- one less of the key in place
  less_in_place : (own : KeyCount K) (left : Option (KeyCount K)) (counts : BTreeMap K ℕ) (f : K → ℕ) (key : K) → is_eq (cmp own.key key) ≡ true → 1 ≤ own.count →
      ((q : K) → counted_in_place cmp left q ≡ counted_in_place cmp (Some own) q - 1) → ((q : K) → counted_in_place cmp (Some own) q + counted_in cmp counts q ≡ f q) →
      (q : K) → counted_in_place cmp left q + counted_in cmp counts q ≡ with_count cmp key (f key - 1) f q
  less_in_place own left counts f key e some less each q = one (is_eq (cmp key q)) refl
    where
      alike : is_eq (cmp own.key q) ≡ is_eq (cmp key q)
      alike = ap is_eq (same_left own.key key q e)

      one : (b : Bool) → is_eq (cmp key q) ≡ b → counted_in_place cmp left q + counted_in cmp counts q ≡ cond b (f key - 1) (f q)
      one true t =
          let here : counted_in_place cmp (Some own) q ≡ own.count = ap (λ b. cond b own.count 0) (alike ∙ t) in
          let at_key : counted_in_place cmp (Some own) key ≡ own.count = ap (λ b. cond b own.count 0) e in
          let same : counted_in cmp counts key ≡ counted_in cmp counts q = same_counted counts key q t in
          let l = less q in
          let k = each key in
          omega arith
      one false t =
          let here : counted_in_place cmp (Some own) q ≡ 0 = ap (λ b. cond b own.count 0) (alike ∙ t) in
          let l = less q in
          let k = each q in
          omega arith

  -- one less of another key
  less_in_map : (own : KeyCount K) (counts left : BTreeMap K ℕ) (f : K → ℕ) (key : K) → is_eq (cmp own.key key) ≡ false →
      ((q : K) → get cmp left q ≡ cond (is_eq (cmp key q)) (some_of (counted_in cmp counts key - 1)) (get cmp counts q)) → ((q : K) → counted_in_place cmp (Some own) q + counted_in cmp counts q ≡ f q) →
      (q : K) → counted_in_place cmp (Some own) q + counted_in cmp left q ≡ with_count cmp key (f key - 1) f q
  less_in_map own counts left f key e less each q = one (is_eq (cmp key q)) refl
    where
      one : (b : Bool) → is_eq (cmp key q) ≡ b → counted_in_place cmp (Some own) q + counted_in cmp left q ≡ cond b (f key - 1) (f q)
      one true t =
          let apart : is_eq (cmp own.key q) ≡ false = ap is_eq (sym (alike_right o key q own.key (equal_if (cmp key q) t))) ∙ e in
          let here : counted_in_place cmp (Some own) q ≡ 0 = ap (λ b. cond b own.count 0) apart in
          let at_key : counted_in_place cmp (Some own) key ≡ 0 = ap (λ b. cond b own.count 0) e in
          let l : counted_in cmp left q ≡ counted_in cmp counts key - 1 = ap (λ n. unwrap_or n 0) (less q ∙ ap (λ b. cond b (some_of (counted_in cmp counts key - 1)) (get cmp counts q)) t) ∙ some_is (counted_in cmp counts key - 1) in
          let k = each key in
          omega arith
      one false t =
          let l : counted_in cmp left q ≡ counted_in cmp counts q = ap (λ n. unwrap_or n 0) (less q ∙ ap (λ b. cond b (some_of (counted_in cmp counts key - 1)) (get cmp counts q)) t) in
          let k = each q in
          omega arith

  some_kept : (n : ℕ) → IfSome (some_of n) (λ n. 1 ≤ n)
  some_kept zero = tt
  some_kept (suc n) = omega arith

  pub counts_less_in_place : (m : CountedMap K) (own : KeyCount K) (left : Option (KeyCount K)) (f : K → ℕ) (key : K) → Counts cmp f m → m.in_place ≡ Some own → is_eq (cmp own.key key) ≡ true →
      ((q : K) → counted_in_place cmp left q ≡ counted_in_place cmp (Some own) q - 1) → IfSome left (λ l. 1 ≤ l.count) → Counts cmp (with_count cmp key (f key - 1) f) (record { in_place = left; counts = m.counts })
  counts_less_in_place m own left f key h is e less some = record {
    each = less_in_place own left m.counts f key e (subst (λ p. IfSome p (λ own. 1 ≤ own.count)) is h.in_place) less (λ q. ap (λ p. counted_in_place cmp p q + counted_in cmp m.counts q) (sym is) ∙ h.each q);
    in_place = some;
    in_map = h.in_map;
  }

  pub counts_less_in_map : (m : CountedMap K) (own : KeyCount K) (left : BTreeMap K ℕ) (f : K → ℕ) (key : K) → Counts cmp f m → m.in_place ≡ Some own → is_eq (cmp own.key key) ≡ false →
      ((q : K) → get cmp left q ≡ cond (is_eq (cmp key q)) (some_of (counted_in cmp m.counts key - 1)) (get cmp m.counts q)) → Counts cmp (with_count cmp key (f key - 1) f) (record { in_place = m.in_place; counts = left })
  counts_less_in_map m own left f key h is e less = record {
    each = λ q. ap (λ p. counted_in_place cmp p q + counted_in cmp left q) is ∙ less_in_map own m.counts left f key e less (λ q. ap (λ p. counted_in_place cmp p q + counted_in cmp m.counts q) (sym is) ∙ h.each q) q;
    in_place = h.in_place;
    in_map = λ q. subst (λ n. IfSome n (λ n. 1 ≤ n)) (sym (less q)) (kept q (is_eq (cmp key q)));
  }
    where
      kept : (q : K) (b : Bool) → IfSome (cond b (some_of (counted_in cmp m.counts key - 1)) (get cmp m.counts q)) (λ n. 1 ≤ n)
      kept q true = some_kept (counted_in cmp m.counts key - 1)
      kept q false = h.in_map q
