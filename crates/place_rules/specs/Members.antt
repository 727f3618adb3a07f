-- Which member of a multixact is refused where this id is the next one.
use Rattle.std.specs.Prelude.{◌≡◌, ℕ, ◌<◌, ◌≤◌, List, Some, IfSome, take}
use Rattle.std.specs.List.{AllByRecursion, slice_get}
use Rattle.tx_events.specs.Nearest.{near_id}
use Rattle.tx_model.specs.declared.command.Pair.{Pair}
use Rattle.report_law.specs.MultiLines.{IsUngiven}

-- these members mean given ids
abbrev pub AreGivenBelow : ℕ → List Pair → Type 0
AreGivenBelow next pairs = AllByRecursion (λ (p : Pair). IsUngiven next p.x.number → ⊥) pairs

-- a member of this stored half isn't given, and those before it are
pub record HasUngiven (next : ℕ) (pairs : List Pair) (x : ℕ) : Type 0 where
  pub number : ℕ
  pub pair : Pair
  pub stands : slice_get pairs number ≡ Some pair
  pub its : pair.x.number ≡ x
  pub others : AreGivenBelow next (take number pairs)
  pub ungiven : IsUngiven next x

-- the member means an id below this oldest one, or none
abbrev pub IsOldPair : ℕ → ℕ → Pair → Type 0
IsOldPair next oldest p = (3 ≤ p.x.number) × IfSome (near_id next p.x.number) (λ id. id < oldest)

-- a member is below this oldest id, and those before it are given
pub record HasOld (next : ℕ) (pairs : List Pair) (oldest : ℕ) : Type 0 where
  pub number : ℕ
  pub pair : Pair
  pub stands : slice_get pairs number ≡ Some pair
  pub others : AreGivenBelow next (take number pairs)
  pub normal : 3 ≤ pair.x.number
  pub older : IfSome (near_id next pair.x.number) (λ id. id < oldest)

-- it is so at some place of these
abbrev pub IsSomewhere : ℕ → ℕ → (ℕ → Type 0) → Type 0
IsSomewhere from to Q = (p : ℕ) × (from ≤ p) × (p ≤ to) × Q p
