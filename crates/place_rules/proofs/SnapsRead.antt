-- A walk over the places where a command may read.
use Rattle.std.proofs.Common.{◌≡◌, ℕ, ◌+◌, ◌<◌, ◌≤◌, subst, arith, ⊎_elim}
use Rattle.std.proofs.lemmas.Bool.{cases_lt}

abbrev pub NoneUpTo : (ℕ → Type 0) → ℕ → ℕ → Type 0
NoneUpTo Q from i = (p : ℕ) → from ≤ p → p < i → Q p → ⊥

pub none_up_to : (Q : ℕ → Type 0) (from i : ℕ) → NoneUpTo Q from i → (Q i → ⊥) → NoneUpTo Q from (i + 1)
none_up_to Q from i before fails p l m q = ⊎_elim
    (λ (u : p < i). before p l u q)
    (λ (u : i ≤ p). let at : p ≡ i = omega arith in fails (subst Q at q))
    (cases_lt p i)

pub up_to : (Q : ℕ → Type 0) (from i to : ℕ) → to ≤ i → NoneUpTo Q from i → NoneUpTo Q from to
up_to Q from i to l none p m k q = none p m (omega arith) q
