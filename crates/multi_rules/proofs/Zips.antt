-- Snapshots that tell one verdict after the other so.
use Rattle.std.proofs.Common.{◌≡◌, ℕ, suc, zero, ◌+◌, ◌<◌, ◌≤◌, ◌↔◌, List, [], ◌∷◌, Some, length, get_or, take, refl, ap, sym, subst, arith, add-one}
use Rattle.std.specs.List.{AllZip, slice_get}
use Rattle.std.proofs.lemmas.Option.{slice_get_within}
use Rattle.tx_events.specs.declared.event.By.{By}
use Rattle.tx_events.specs.declared.event.Event.{Event}
use Rattle.place_columns.specs.declared.span.Span.{Span}
use Rattle.report_law.specs.Kinds.{IsSnapAt}
use Rattle.multi_rules.specs.declared.taken.Taken.{Taken}
use Rattle.multi_rules.specs.Snapped.{AreBetween, AreTaken}

-- ---- items at their places

pub zip_more : {A B : Type 0} (R : A → B → Type 0) (xs : List A) (ys : List B) (n : ℕ) (x : A) (y : B) → n < length xs → n < length ys → x ≡ get_or xs n x → y ≡ get_or ys n y → AllZip R (take (n + 1) xs) (take (n + 1) ys) ↔ (AllZip R (take n xs) (take n ys) × R x y)
zip_more {A} {B} R xs ys n x y l m xe ye = rw (add-one n) (more xs ys n x y l m xe ye)
  where
    more : (xs : List A) (ys : List B) (n : ℕ) (x : A) (y : B) → n < length xs → n < length ys → x ≡ get_or xs n x → y ≡ get_or ys n y → AllZip R (take (suc n) xs) (take (suc n) ys) ↔ (AllZip R (take n xs) (take n ys) × R x y)
    more [] ys n x y l m xe ye = absurd (omega arith)
    more (a ∷ xs) [] n x y l m xe ye = absurd (omega arith)
    more (a ∷ xs) (b ∷ ys) zero x y l m xe ye = (
      λ z. (tt, subst (λ w. R w y) (sym xe) (subst (R a) (sym ye) z.0)),
      λ z. (subst (R a) ye (subst (λ w. R w y) xe z.1), tt),
    )
    more (a ∷ xs) (b ∷ ys) (suc n) x y l m xe ye =
        let r = more xs ys n x y (omega arith) (omega arith) xe ye in (
          λ z. let q = r.0 z.1 in ((z.0, q.0), q.1),
          λ z. (z.0.0, r.1 (z.0.1, z.1)),
        )

pub zip_length : {A B : Type 0} (R : A → B → Type 0) (xs : List A) (ys : List B) → AllZip R xs ys → length xs ≡ length ys
zip_length R [] [] z = refl
zip_length R [] (y ∷ ys) z = absurd z
zip_length R (x ∷ xs) [] z = absurd z
zip_length R (x ∷ xs) (y ∷ ys) z = ap suc (zip_length R xs ys z.1)

some_at : {X : Type 0} (xs : List X) (i : ℕ) → i < length xs → (x : X) × (slice_get xs i ≡ Some x)
some_at [] i l = absurd (omega arith)
some_at (y ∷ xs) zero l = (y, refl)
some_at (y ∷ xs) (suc i) l = some_at xs i (omega arith)

-- ---- spans

pub all_between : (P : Taken → Type 0) (taken : List Taken) (n : ℕ) → n ≡ length taken → ((t : Taken) → P t) → AreBetween P taken (record { from = 0; end = n })
all_between P taken n is holds = record {
  within = λ i l m. omega arith;
  each = λ i t e. (λ q. let low = slice_get_within taken i t e in (omega arith, omega arith), λ z. holds t);
}

pub same_between : (P Q : Taken → Type 0) (taken : List Taken) (span : Span) → ((t : Taken) → P t ↔ Q t) → AreBetween P taken span → AreBetween Q taken span
same_between P Q taken span same b = record {
  within = b.within;
  each = λ i t e. (λ q. (b.each i t e).0 ((same t).1 q), λ z. (same t).0 ((b.each i t e).1 z));
}

pub both_between : (P Q : Taken → Type 0) (taken : List Taken) (one other both : Span) → AreBetween P taken one → AreBetween Q taken other
    → ((p : ℕ) → ((both.from ≤ p) × (p < both.end)) ↔ ((one.from ≤ p) × (p < one.end) × (other.from ≤ p) × (p < other.end))) → AreBetween (λ t. P t × Q t) taken both
both_between P Q taken one other both a b join = record {
  within = λ i l m. let j = (join i).0 (l, m) in a.within i j.0 j.1;
  each = λ i t e. (
    λ z.
        let x = (a.each i t e).0 z.0 in
        let y = (b.each i t e).0 z.1 in
        (join i).1 (x.0, x.1, y.0, y.1),
    λ z. let j = (join i).0 z in ((a.each i t e).1 (j.0, j.1), (b.each i t e).1 (j.2, j.3)),
  );
}

-- some snapshot is among them exactly where the command took one so
pub one_between : (first : ℕ) (h : List Event) (by : By) (taken : List Taken) (Q : ℕ → Type 0) (span : Span) → AreTaken first h by taken → AreBetween (λ t. Q t.place) taken span → (span.from < span.end) ↔ ((place : ℕ) × IsSnapAt h by place × Q place)
one_between first h by taken Q span are b = (
  λ l.
      let low = b.within span.from (omega arith) l in
      let t = some_at taken span.from low in
      (t.0.place, (are.each span.from t.0 t.1).0, (b.each span.from t.0 t.1).1 (omega arith, l)),
  λ s.
      let a = are.all s.0 s.1 in
      let z = (b.each a.0 a.1 a.2).0 (subst Q (sym a.3) s.2) in
      let x = z.0 in let y = z.1 in omega arith,
)
