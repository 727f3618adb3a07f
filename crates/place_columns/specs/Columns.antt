-- Numbers by the places of a history: one for each place, and one for the place behind it.
use Rattle.std.specs.Prelude.{◌≡◌, ℕ, ◌+◌, ◌<◌, ◌≤◌, ◌↔◌, List, length, take, slice_index}
use Rattle.place_columns.specs.declared.span.Span.{Span}

abbrev pub NeverFalls : List ℕ → Type 0
NeverFalls column = (p q : ℕ) → p ≤ q → q < length column → slice_index column p ≤ slice_index column q

-- these are exactly the places at which the column has this number
pub record IsSpanOf (column : List ℕ) (number : ℕ) (span : Span) : Type 0 where
  pub within : span.end ≤ length column
  pub each : (p : ℕ) → p < length column → (slice_index column p ≡ number) ↔ ((span.from ≤ p) × (p < span.end))

-- the column has f of what stands before each place of the history
pub record IsColumn {X : Type 0} (f : List X → ℕ) (h : List X) (column : List ℕ) : Type 0 where
  pub size : length column ≡ length h + 1
  pub each : (p : ℕ) → p ≤ length h → slice_index column p ≡ f (take p h)

-- these are exactly the places, also the one behind the history, at which f of what stands before is this number
pub record IsWhere {X : Type 0} (f : List X → ℕ) (h : List X) (number : ℕ) (span : Span) : Type 0 where
  pub within : span.end ≤ length h + 1
  pub each : (p : ℕ) → p ≤ length h → (f (take p h) ≡ number) ↔ ((span.from ≤ p) × (p < span.end))
