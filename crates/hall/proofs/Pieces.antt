-- The views of all passes.
use Rattle.std.proofs.Common.{◌≡◌, ℕ, zero, suc, ◌<◌, ◌≢◌, List, [], ◌∷◌, length, set, sym, ◌∙◌, subst, ⊎_elim, arith}
use mathlib.Core.Option.{some, some-ne-none}
use lib.ListN.{get_elem?}
use Rattle.atomic_table.proofs.Lists.{at_set}
use Rattle.notes.specs.Lists.{at}
use Rattle.hall.specs.declared.view.View.{View}
use Rattle.hall.specs.Rule.{Unique}

module _ {S E : Type 0} where
  -- a fact of a view that is so of the new one and of each other
  pub each_set : (P : ℕ → View S E → Type 0) (vs : List (View S E)) (me : ℕ) (w : View S E) → P me w → ((j : ℕ) (d : View S E) → j ≢ me → get_elem? vs j ≡ some d → P j d) → (j : ℕ) (d : View S E) → get_elem? (set vs me w) j ≡ some d → P j d
  each_set P vs me w mine others j d e = ⊎_elim (λ (t : (j ≡ me) × (w ≡ d)). subst (λ (z : ℕ × View S E). P z.0 z.1) (λ i. (sym t.0 i, t.1 i)) mine)
      (λ (t : (j ≢ me) × (get_elem? vs j ≡ some d)). others j d t.0 t.1) (at_set vs me j w d e)

  -- what no two views have, where the new view has nothing new, or what no other had
  pub unique_set : {K : Type 0} (R : View S E → K → Type 0) (vs : List (View S E)) (me : ℕ) (w : View S E) → Unique vs R
      → ((k : K) → R w k → (j : ℕ) (d : View S E) → j ≢ me → get_elem? vs j ≡ some d → R d k → ⊥) → Unique (set vs me w) R
  unique_set {K} R vs me w old fresh i j d e k di ej rd re =
      ⊎_elim (λ (t : (i ≡ me) × (w ≡ d)).
      ⊎_elim (λ (u : (j ≡ me) × (w ≡ e)). t.0 ∙ sym u.0)
      (λ (u : (j ≢ me) × (get_elem? vs j ≡ some e)). absurd (fresh k (subst (λ (z : View S E). R z k) (sym t.1) rd) j e u.0 u.1 re)) (at_set vs me j w e ej))
      (λ (t : (i ≢ me) × (get_elem? vs i ≡ some d)).
      ⊎_elim (λ (u : (j ≡ me) × (w ≡ e)). absurd (fresh k (subst (λ (z : View S E). R z k) (sym u.1) re) i d t.0 t.1 rd))
      (λ (u : (j ≢ me) × (get_elem? vs j ≡ some e)). old i j d e k t.1 u.1 rd re) (at_set vs me j w e ej)) (at_set vs me i w d di)

  pub no_other : {K : Type 0} (R : View S E → K → Type 0) (vs : List (View S E)) (me : ℕ) (v w : View S E) → get_elem? vs me ≡ some v → Unique vs R → ((k : K) → R w k → R v k)
      → (k : K) → R w k → (j : ℕ) (d : View S E) → j ≢ me → get_elem? vs j ≡ some d → R d k → ⊥
  no_other R vs me v w at old back k rw j d n e rd = n (old j me d v k e at rd (back k rw))

  pub inside : (vs : List (View S E)) (me : ℕ) (v : View S E) → get_elem? vs me ≡ some v → me < length vs
  inside [] me v h = absurd (some-ne-none v (sym h))
  inside (x ∷ xs) zero v h = omega arith
  inside (x ∷ xs) (suc i) v h = let k = inside xs i v h in omega arith
