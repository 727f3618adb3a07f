-- What entries of the locks' lists need, while the lists grow.
use Rattle.std.specs.Prelude.{◌≡◌, ℕ, List, Some, take, slice_get}
use Rattle.notes.specs.Lists.{Grows, at}

module _ {E : Type 0} where
  -- each entry, at its place, has what it needs of the lists as they stand, and of the entries before it
  pub record Upheld (Need : List (List E) → ℕ → List E → E → Type 0) (lists : List (List E)) : Type 0 where
    pub each : (lock p : ℕ) (e : E) → slice_get (at lists lock) p ≡ Some e → Need lists lock (take p (at lists lock)) e

  -- what an entry needs stays met while lists grow
  pub record IsLasting (Need : List (List E) → ℕ → List E → E → Type 0) : Type 0 where
    pub stays : (lists more : List (List E)) (lock : ℕ) (before : List E) (e : E) → Grows lists more → Need lists lock before e → Need more lock before e
