-- How often a pin is among pins.
use Rattle.std.proofs.Common.{◌≡◌, ℕ, suc, ◌+◌, ◌≤◌, List, [], ◌∷◌, ◌++◌, length, refl, sym, ap, ◌∙◌, inl, inr, ⊎_elim, arith, Bool, true, false, ◌&&◌, ◌==◌, cond, eqb-true}
use Rattle.std.specs.List.{count_by}
use Rattle.std.proofs.lemmas.List.Sums.{sum_by-cons, sum_by-append}
use Rattle.tx_events.specs.Multis.{Pin, same_pin, without_pin}
use Rattle.tx_events.proofs.ListSteps.{eqb-refl}
use Rattle.std.proofs.lemmas.Bool.{and_parts}
use Rattle.tx_events.proofs.Membership.{Has}

abbrev pub one_if : Bool → ℕ
one_if b = cond b 1 0

abbrev pub count : Pin → List Pin → ℕ
count p ps = count_by (same_pin p) ps

pub same_refl : (p : Pin) → same_pin p p ≡ true
same_refl p = ap (λ b. b && (p.1 == p.1)) (eqb-refl p.0) ∙ eqb-refl p.1

pub same_equal : (p q : Pin) → same_pin p q ≡ true → p ≡ q
same_equal p q e =
    let both = and_parts (p.0 == q.0) (p.1 == q.1) e in
    let a : p.0 ≡ q.0 = eqb-true p.0 q.0 both.0 in
    let b : p.1 ≡ q.1 = eqb-true p.1 q.1 both.1 in
    ap (λ (x : ℕ). let r : Pin = (x, p.1) in r) a ∙ ap (λ (y : ℕ). let r : Pin = (q.0, y) in r) b

count_cons : (p x : Pin) (ps : List Pin) → count p (x ∷ ps) ≡ one_if (same_pin p x) + count p ps
count_cons p x ps = sum_by-cons (λ y. one_if (same_pin p y)) x ps

pub count_push : (p x : Pin) (ps : List Pin) → count p (ps ++ x ∷ []) ≡ count p ps + one_if (same_pin p x)
count_push p x ps =
    let c : count p (x ∷ []) ≡ one_if (same_pin p x) + count p [] = count_cons p x [] in
    let a : count p (ps ++ x ∷ []) ≡ count p ps + count p (x ∷ []) = sum_by-append (λ y. one_if (same_pin p y)) ps (x ∷ []) in
    let z : count p [] ≡ 0 = refl in
    omega arith

-- a pin is there where it counts
pub has_count : (p : Pin) (ps : List Pin) → Has ps p → 1 ≤ count p ps
has_count p [] k = absurd k
has_count p (x ∷ ps) k =
    let c : count p (x ∷ ps) ≡ one_if (same_pin p x) + count p ps = count_cons p x ps in
    ⊎_elim
    (λ (e : x ≡ p). let t : same_pin p x ≡ true = ap (same_pin p) e ∙ same_refl p in let d : one_if (same_pin p x) ≡ 1 = ap one_if t in omega arith)
    (λ t. let h : 1 ≤ count p ps = has_count p ps t in omega arith)
    k

pub count_has : (p : Pin) (ps : List Pin) → 1 ≤ count p ps → Has ps p
count_has p [] h = absurd (omega arith)
count_has p (x ∷ ps) h =
    let c : count p (x ∷ ps) ≡ one_if (same_pin p x) + count p ps = count_cons p x ps in
    let step : (b : Bool) → same_pin p x ≡ b → Has (x ∷ ps) p = elim [
      | true ↦ λ e. inl (sym (same_equal p x e))
      | false ↦ λ e. let d : one_if (same_pin p x) ≡ 0 = ap one_if e in inr (count_has p ps (omega arith))
    ] in
    step (same_pin p x) refl

-- one less of a pin that is there
pub count_without : (p q : Pin) (ps : List Pin) → Has ps p → count q (without_pin p ps) + one_if (same_pin q p) ≡ count q ps
count_without p q [] k = absurd k
count_without p q (x ∷ ps) k =
    let c : count q (x ∷ ps) ≡ one_if (same_pin q x) + count q ps = count_cons q x ps in
    let step : (b : Bool) → same_pin p x ≡ b → count q (cond b ps (x ∷ without_pin p ps)) + one_if (same_pin q p) ≡ count q (x ∷ ps) = elim [
      | true ↦ λ e. let f : one_if (same_pin q p) ≡ one_if (same_pin q x) = ap (λ z. one_if (same_pin q z)) (same_equal p x e) in omega arith
      | false ↦ λ e.
          let t : Has ps p = ⊎_elim (λ (f : x ≡ p). absurd (let g : true ≡ false = sym (ap (same_pin p) f ∙ same_refl p) ∙ e in cc)) (λ t. t) k in
          let h : count q (without_pin p ps) + one_if (same_pin q p) ≡ count q ps = count_without p q ps t in
          let d : count q (x ∷ without_pin p ps) ≡ one_if (same_pin q x) + count q (without_pin p ps) = count_cons q x (without_pin p ps) in
          omega arith
    ] in
    step (same_pin p x) refl

pub length_without : (p : Pin) (ps : List Pin) → Has ps p → length (without_pin p ps) + 1 ≡ length ps
length_without p [] k = absurd k
length_without p (x ∷ ps) k =
    let step : (b : Bool) → same_pin p x ≡ b → length (cond b ps (x ∷ without_pin p ps)) + 1 ≡ suc (length ps) = elim [
      | true ↦ λ e. omega arith
      | false ↦ λ e.
          let t : Has ps p = ⊎_elim (λ (f : x ≡ p). absurd (let g : true ≡ false = sym (ap (same_pin p) f ∙ same_refl p) ∙ e in cc)) (λ t. t) k in
          let h : length (without_pin p ps) + 1 ≡ length ps = length_without p ps t in
          omega arith
    ] in
    step (same_pin p x) refl

pub none_counts : (ps : List Pin) → ((p : Pin) → count p ps ≡ 0) → ps ≡ []
none_counts [] f = refl
none_counts (x ∷ ps) f = absurd (let h : 1 ≤ count x (x ∷ ps) = has_count x (x ∷ ps) (inl refl) in let z : count x (x ∷ ps) ≡ 0 = f x in omega arith)
