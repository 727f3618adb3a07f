-- Counters counted by their keys.
use Rattle.std.proofs.Common.{◌≡◌, ℕ, ◌+◌, Bool, true, false, cond, ◌==◌, ◌&&◌, Option, Some, Less, Equal, Greater, refl, ap, sym, ◌∙◌, arith, eqb-true, unwrap_or}
use Rattle.std.proofs.lemmas.Bool.{and_parts}
use Rattle.std.specs.BTreeMap.{BTreeMap, get}
use Rattle.std.specs.Ordering.{is_eq, nat_cmp, ordering_then}
use Rattle.std.specs.declared.cmp.Ordering.{Ordering}
use Rattle.tx_events.specs.declared.record.Counters.{Counters}
use Rattle.tx_events.proofs.ListSteps.{eqb-refl}
use Rattle.counted_map.proofs.Counted.{cmp_eq}
use Rattle.report_law.specs.Checkpoints.{same_counters}
use Rattle.record_rules.specs.declared.counts.CountersKey.{CountersKey}
use Rattle.record_rules.specs.Counts.{AreCounted, counters_of, key_cmp, key_of, with_one}

then_eq : (x y : Ordering) → is_eq (ordering_then x y) ≡ (is_eq x && is_eq y)
then_eq Less y = refl
then_eq Equal y = refl
then_eq Greater y = refl

step : (a b : ℕ) (o : Ordering) (t : Bool) → is_eq o ≡ t → is_eq (ordering_then (nat_cmp a b) o) ≡ ((a == b) && t)
step a b o t is = then_eq (nat_cmp a b) o ∙ ap (λ c. c && is_eq o) (cmp_eq a b) ∙ ap (λ c. (a == b) && c) is

pub key_is : (k q : CountersKey) → is_eq (key_cmp k q) ≡ same_counters (counters_of k) (counters_of q)
key_is k q =
    step k.next q.next (ordering_then (nat_cmp k.oldest q.oldest) (ordering_then (nat_cmp k.multi q.multi) (ordering_then (nat_cmp k.offset q.offset) (ordering_then (nat_cmp k.oldest_multi q.oldest_multi) (nat_cmp k.oldest_offset q.oldest_offset)))))
    ((k.oldest == q.oldest) && ((k.multi == q.multi) && ((k.offset == q.offset) && ((k.oldest_multi == q.oldest_multi) && (k.oldest_offset == q.oldest_offset)))))
    (step k.oldest q.oldest (ordering_then (nat_cmp k.multi q.multi) (ordering_then (nat_cmp k.offset q.offset) (ordering_then (nat_cmp k.oldest_multi q.oldest_multi) (nat_cmp k.oldest_offset q.oldest_offset))))
    ((k.multi == q.multi) && ((k.offset == q.offset) && ((k.oldest_multi == q.oldest_multi) && (k.oldest_offset == q.oldest_offset))))
    (step k.multi q.multi (ordering_then (nat_cmp k.offset q.offset) (ordering_then (nat_cmp k.oldest_multi q.oldest_multi) (nat_cmp k.oldest_offset q.oldest_offset)))
    ((k.offset == q.offset) && ((k.oldest_multi == q.oldest_multi) && (k.oldest_offset == q.oldest_offset)))
    (step k.offset q.offset (ordering_then (nat_cmp k.oldest_multi q.oldest_multi) (nat_cmp k.oldest_offset q.oldest_offset)) ((k.oldest_multi == q.oldest_multi) && (k.oldest_offset == q.oldest_offset))
    (step k.oldest_multi q.oldest_multi (nat_cmp k.oldest_offset q.oldest_offset) (k.oldest_offset == q.oldest_offset) (cmp_eq k.oldest_offset q.oldest_offset)))))
    ∙ assoc (k.next == q.next) (k.oldest == q.oldest) (k.multi == q.multi) (k.offset == q.offset) (k.oldest_multi == q.oldest_multi) (k.oldest_offset == q.oldest_offset)
  where
    assoc : (a b c d e f : Bool) → (a && (b && (c && (d && (e && f))))) ≡ (a && b && c && d && e && f)
    assoc true true true true true f = refl
    assoc true true true true false f = refl
    assoc true true true false e f = refl
    assoc true true false d e f = refl
    assoc true false c d e f = refl
    assoc false b c d e f = refl

abbrev build : ℕ → ℕ → ℕ → ℕ → ℕ → ℕ → Counters
build a b c d e f = record { next = a; oldest = b; multi = c; offset = d; oldest_multi = e; oldest_offset = f }

pub same_are : (x y : Counters) → same_counters x y ≡ true → x ≡ y
same_are x y e =
    let p = and_parts ((x.next == y.next) && (x.oldest == y.oldest) && (x.multi == y.multi) && (x.offset == y.offset) && (x.oldest_multi == y.oldest_multi)) (x.oldest_offset == y.oldest_offset) e in
    let q = and_parts ((x.next == y.next) && (x.oldest == y.oldest) && (x.multi == y.multi) && (x.offset == y.offset)) (x.oldest_multi == y.oldest_multi) p.0 in
    let r = and_parts ((x.next == y.next) && (x.oldest == y.oldest) && (x.multi == y.multi)) (x.offset == y.offset) q.0 in
    let s = and_parts ((x.next == y.next) && (x.oldest == y.oldest)) (x.multi == y.multi) r.0 in
    let t = and_parts (x.next == y.next) (x.oldest == y.oldest) s.0 in
    ap (λ n. build n x.oldest x.multi x.offset x.oldest_multi x.oldest_offset) (eqb-true x.next y.next t.0)
    ∙ ap (λ n. build y.next n x.multi x.offset x.oldest_multi x.oldest_offset) (eqb-true x.oldest y.oldest t.1)
    ∙ ap (λ n. build y.next y.oldest n x.offset x.oldest_multi x.oldest_offset) (eqb-true x.multi y.multi s.1)
    ∙ ap (λ n. build y.next y.oldest y.multi n x.oldest_multi x.oldest_offset) (eqb-true x.offset y.offset r.1)
    ∙ ap (λ n. build y.next y.oldest y.multi y.offset n x.oldest_offset) (eqb-true x.oldest_multi y.oldest_multi q.1)
    ∙ ap (build y.next y.oldest y.multi y.offset y.oldest_multi) (eqb-true x.oldest_offset y.oldest_offset p.1)

pub equal_same : (a : Counters) → same_counters a a ≡ true
equal_same a = all (a.next == a.next) (a.oldest == a.oldest) (a.multi == a.multi) (a.offset == a.offset) (a.oldest_multi == a.oldest_multi) (a.oldest_offset == a.oldest_offset) (eqb-refl a.next) (eqb-refl a.oldest) (eqb-refl a.multi) (eqb-refl a.offset) (eqb-refl a.oldest_multi) (eqb-refl a.oldest_offset)
  where
    all : (a b c d e f : Bool) → a ≡ true → b ≡ true → c ≡ true → d ≡ true → e ≡ true → f ≡ true → (a && b && c && d && e && f) ≡ true
    all a b c d e f p q r s t u = rw (p, q, r, s, t, u) refl

pub counted_more : (f : Counters → ℕ) (c : Counters) (m n : BTreeMap CountersKey ℕ) (count : ℕ) → AreCounted f m → count ≡ f c → ((q : CountersKey) → get key_cmp n q ≡ cond (is_eq (key_cmp (key_of c) q)) (Some (count + 1)) (get key_cmp m q)) → AreCounted (with_one c f) n
counted_more f c m n count a is now q =
    ap (λ (o : Option ℕ). unwrap_or o 0) (now q ∙ ap (λ b. cond b (Some (count + 1)) (get key_cmp m q)) (key_is (key_of c) q)) ∙ one (same_counters c (counters_of q)) refl
  where
    plus_zero : (k : ℕ) → k + 0 ≡ k
    plus_zero k = omega arith

    one : (b : Bool) → same_counters c (counters_of q) ≡ b → unwrap_or (cond b (Some (count + 1)) (get key_cmp m q)) 0 ≡ f (counters_of q) + cond b 1 0
    one true e = ap (λ k. k + 1) (is ∙ ap f (same_are c (counters_of q) e))
    one false e = a q ∙ sym (plus_zero (f (counters_of q)))
