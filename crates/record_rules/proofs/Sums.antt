-- One of two tests.
use Rattle.std.proofs.Common.{◌≡◌, ◌↔◌, ◌⊎◌, Bool, true, false, IsTrue, sym, ◌∙◌, ⊎_elim, inl, inr}
use Rattle.std.proofs.lemmas.Bool.{cases_Bool, false≢true}

pub either_iff : (P Q : Type 0) (one other r : Bool) → (IsTrue r → IsTrue one ⊎ IsTrue other) → (r ≡ false → (one ≡ false) × (other ≡ false)) → (IsTrue one ↔ P) → (IsTrue other ↔ Q) → IsTrue r ↔ (P ⊎ Q)
either_iff P Q one other r some none p q = (
  λ t. ⊎_elim (λ (a : IsTrue one). inl (p.0 a)) (λ (b : IsTrue other). inr (q.0 b)) (some t),
  λ s. ⊎_elim (λ (t : r ≡ true). t)
      (λ (f : r ≡ false). let n = none f in absurd (⊎_elim (λ (x : P). false≢true (sym n.0 ∙ p.1 x)) (λ (y : Q). false≢true (sym n.1 ∙ q.1 y)) s))
      (cases_Bool r),
)
