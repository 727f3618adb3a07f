-- At which places the events of a line's command stand.
use Rattle.std.proofs.Common.{◌≡◌, ℕ, suc, zero, ◌+◌, ◌<◌, ◌↔◌, List, [], ◌∷◌, length, get_or, map, refl, ap, sym, subst, ◌∙◌, arith, Bool, true, false, cond, ◌==◌, eqb-true, eq-eqb, Some}
use Rattle.std.specs.List.{Contains, slice_get}
use Rattle.tx_events.specs.declared.event.By.{By}
use Rattle.place_columns.specs.declared.lines.LineAt.{LineAt}
use Rattle.place_columns.specs.Lined.{AreInOrder, bys_of, number_of, numbered, places_from, places_of}
use Rattle.place_columns.proofs.Numbering.{number_is, number_tells, same_is}

put : (t : Bool) (n q : ℕ) (ps : List ℕ) → Contains ps q → Contains (cond t (n ∷ ps) ps) q
put true n q ps c = let b = c.1 in (suc c.0, omega arith, c.2)
put false n q ps c = c

at_from : (i n : ℕ) (ks : List ℕ) (p : ℕ) → slice_get ks p ≡ Some i → Contains (places_from i n ks) (n + p)
at_from i n [] p e = absurd cc
at_from i n (k ∷ ks) zero e =
    let same : k ≡ i = cc in
    let z : n ≡ n + 0 = omega arith in
    subst (λ (t : Bool). Contains (cond t (n ∷ places_from i (n + 1) ks) (places_from i (n + 1) ks)) (n + 0)) (sym (eq-eqb k i same)) (0, omega arith, z)
at_from i n (k ∷ ks) (suc p) e =
    let z : n + 1 + p ≡ n + suc p = omega arith in
    subst (λ (q : ℕ). Contains (places_from i n (k ∷ ks)) q) z (put (k == i) n (n + 1 + p) (places_from i (n + 1) ks) (at_from i (n + 1) ks p e))

-- it stands that far behind the first place
abbrev StandsFrom : ℕ → ℕ → List ℕ → ℕ → Type 0
StandsFrom i n ks q = (p : ℕ) × (q ≡ n + p) × (slice_get ks p ≡ Some i)

later : (i n k : ℕ) (ks : List ℕ) (q : ℕ) → StandsFrom i (n + 1) ks q → StandsFrom i n (k ∷ ks) q
later i n k ks q s = let e = s.1 in (suc s.0, omega arith, s.2)

from_at : (i n : ℕ) (ks : List ℕ) (q : ℕ) → Contains (places_from i n ks) q → StandsFrom i n ks q
from_at i n [] q c = let b = c.1 in absurd (omega arith)
from_at i n (k ∷ ks) q c = one (λ r. from_at i (n + 1) ks q r) (k == i) refl c
  where
    first : (Contains (places_from i (n + 1) ks) q → StandsFrom i (n + 1) ks q) → (k == i) ≡ true → (j : ℕ) → j < length (n ∷ places_from i (n + 1) ks) → get_or (n ∷ places_from i (n + 1) ks) j q ≡ q → StandsFrom i n (k ∷ ks) q
    first rest is zero b e = let z : q ≡ n + 0 = omega arith in (0, z, ap (λ (x : ℕ). Some x) (eqb-true k i is))
    first rest is (suc j) b e = later i n k ks q (rest (j, omega arith, e))

    one : (Contains (places_from i (n + 1) ks) q → StandsFrom i (n + 1) ks q) → (t : Bool) → (k == i) ≡ t → Contains (cond t (n ∷ places_from i (n + 1) ks) (places_from i (n + 1) ks)) q → StandsFrom i n (k ∷ ks) q
    one rest true is c = first rest is c.0 c.1 c.2
    one rest false is c = later i n k ks q (rest c)

module _ (lines : List LineAt) (i : ℕ) (by : By) (order : AreInOrder (bys_of lines)) (line : slice_get (bys_of lines) i ≡ Some by) where
  its_number : (bys : List By) (p : ℕ) → slice_get bys p ≡ Some by → slice_get (map (number_of lines) bys) p ≡ Some i
  its_number [] p e = absurd cc
  its_number (b ∷ bys) zero e = let same : b ≡ by = cc in ap (λ (x : By). Some (number_of lines x)) same ∙ ap (λ (n : ℕ). Some n) (number_is lines i by order line)
  its_number (b ∷ bys) (suc p) e = its_number bys p e

  by_number : (bys : List By) (p : ℕ) → slice_get (map (number_of lines) bys) p ≡ Some i → slice_get bys p ≡ Some by
  by_number [] p e = absurd cc
  by_number (b ∷ bys) zero e =
      let n : number_of lines b ≡ i = cc in
      ap (λ (x : By). Some x) (same_is b by (sym (number_tells lines i by b order line) ∙ eq-eqb (number_of lines b) i n))
  by_number (b ∷ bys) (suc p) e = by_number bys p e

  -- those that the line's number tells are exactly these
  pub its_places : (bys : List By) (p : ℕ) → (slice_get bys p ≡ Some by) ↔ Contains (places_of i (numbered lines bys).numbers) p
  its_places bys p = (
    λ e. let z : 0 + p ≡ p = omega arith in subst (λ (q : ℕ). Contains (places_of i (map (number_of lines) bys)) q) z (at_from i 0 (map (number_of lines) bys) p (its_number bys p e)),
    λ c.
        let s = from_at i 0 (map (number_of lines) bys) p c in
        let e = s.1 in
        let z : p ≡ s.0 = omega arith in
        by_number bys p (subst (λ (q : ℕ). slice_get (map (number_of lines) bys) q ≡ Some i) (sym z) s.2),
  )
