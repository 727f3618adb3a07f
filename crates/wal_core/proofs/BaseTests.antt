-- The test for a base says what a base is.
use Rattle.std.proofs.Common.{◌≡◌, inl, inr, ℕ, Bool, true, false, not, eqb, ◌||◌, refl, sym}
use Rattle.std.specs.Prelude.{IsTrue, ◌↔◌}
use Rattle.std.proofs.lemmas.Bool.{leb-true, le-leb, and_parts, and_from, eqb-true, eq-eqb, ne_eqb, cases_eq}
use Rattle.tx_events.specs.Base.{IsBase}
use Rattle.tx_events.specs.declared.record.Counters.{Counters}
use Rattle.wal_core.specs.BaseTest.{is_base_of}

either_false : (a b : Bool) → (not a || b) ≡ true → a ≡ true → b ≡ true
either_false true b e is = e
either_false false b e is = absurd cc

none_or : (m o n p : ℕ) → (m ≡ o → n ≡ p) → (not (eqb m o) || eqb n p) ≡ true
none_or m o n p so = elim (cases_eq m o) [
  | inl same ↦ rw (eq-eqb m o same, eq-eqb n p (so same)) refl
  | inr apart ↦ rw (ne_eqb m o apart) refl
]

pub base_passes : (c : Counters) → IsBase c → is_base_of c ≡ true
unfolding is_base_of
base_passes c b = and_from _ _ (le-leb _ _ b.full) (and_from _ _ (le-leb _ _ b.full_oldest) (and_from _ _ (le-leb _ _ b.oldest) (and_from _ _ (le-leb _ _ b.next)
    (and_from _ _ (le-leb _ _ b.oldest_multi) (and_from _ _ (le-leb _ _ b.multi) (and_from _ _ (le-leb _ _ b.oldest_offset) (and_from _ _ (le-leb _ _ b.offset)
    (none_or c.oldest_multi c.multi c.oldest_offset c.offset b.none))))))))

pub base_if : (c : Counters) → is_base_of c ≡ true → IsBase c
unfolding is_base_of
base_if c e =
    let a1 = and_parts _ _ e in let a2 = and_parts _ _ a1.1 in let a3 = and_parts _ _ a2.1 in let a4 = and_parts _ _ a3.1 in
    let a5 = and_parts _ _ a4.1 in let a6 = and_parts _ _ a5.1 in let a7 = and_parts _ _ a6.1 in let a8 = and_parts _ _ a7.1 in
    record {
      full = leb-true _ _ a1.0;
      full_oldest = leb-true _ _ a2.0;
      oldest = leb-true _ _ a3.0;
      next = leb-true _ _ a4.0;
      oldest_multi = leb-true _ _ a5.0;
      multi = leb-true _ _ a6.0;
      oldest_offset = leb-true _ _ a7.0;
      offset = leb-true _ _ a8.0;
      none = λ same. eqb-true c.oldest_offset c.offset (either_false (eqb c.oldest_multi c.multi) (eqb c.oldest_offset c.offset) a8.1 (eq-eqb c.oldest_multi c.multi same));
    }

-- what a function that decides it answers
pub base_answer : (b : Bool) (c : Counters) → IsTrue b ↔ IsBase c → b ≡ is_base_of c
base_answer true c is = sym (base_passes c (is.0 refl))
base_answer false c is = by_value (is_base_of c) refl
  where
    by_value : (v : Bool) → is_base_of c ≡ v → false ≡ is_base_of c
    by_value false e = sym e
    by_value true e = absurd (no (is.1 (base_if c e)))
      where
        no : IsTrue false → ⊥
        no e = cc
