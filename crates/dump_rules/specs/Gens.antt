-- The multixacts that a life gave.
use Rattle.std.specs.Prelude.{◌≡◌, ℕ, ◌+◌, ◌<◌, ◌≤◌, Bool, List, [], ◌∷◌, Some, length, slice_get, Contains}
use Rattle.std.specs.List.{AllByRecursion, HoldsAt}
use Rattle.tx_events.specs.declared.event.By.{By}
use Rattle.tx_events.specs.declared.multi.Member.{Member}
use Rattle.tx_events.specs.declared.multi.MultiEvent.{MultiEvent}
use Rattle.tx_events.specs.declared.multi.MultiEvent.TheVariants as multis
use Rattle.dump_rules.specs.declared.gens.GenMark.{GenMark}

-- which commands were answered with a multixact, and all of a life's multixact events
pub record Gave : Type 0 where
  pub ok : By → Bool
  pub all : List MultiEvent

abbrev pub mark_of : ℕ → Bool → ℕ → ℕ → List Member → GenMark
mark_of place ok multi offset members = record { multi = multi; offset = offset; end = offset + length members; place = place; ok = ok }

-- the mark of the multixact that the event at this place gives
abbrev pub marked : ℕ → Bool → MultiEvent → List GenMark
marked place ok (multis.Gen by multi offset members) = mark_of place ok multi offset members ∷ []
marked place ok e = []

pub record IsGenMark (ok : By → Bool) (h : List MultiEvent) (g : GenMark) : Type 0 where
  pub by : By
  pub members : List Member
  pub stands : slice_get h g.place ≡ Some (multis.Gen by g.multi g.offset members)
  pub behind : g.end ≡ g.offset + length members
  pub answered : g.ok ≡ ok by

-- each multixact is greater than those before it, and its members begin no earlier than theirs end
abbrev pub Rise : List GenMark → Type 0
Rise [] = Unit {0}
Rise (g ∷ gens) = AllByRecursion (λ (k : GenMark). (g.multi < k.multi) × (g.end ≤ k.offset)) gens × Rise gens

-- the marks of all multixacts of a legal history
pub record AreGens (ok : By → Bool) (h : List MultiEvent) (gens : List GenMark) : Type 0 where
  pub each : AllByRecursion (IsGenMark ok h) gens
  pub all : (place multi offset : ℕ) (members : List Member) (by : By) → slice_get h place ≡ Some (multis.Gen by multi offset members)
      → Contains gens (mark_of place (ok by) multi offset members)
  pub rise : Rise gens

-- the multixact stands at place i
abbrev pub IsPlaceOf : List GenMark → ℕ → ℕ → Type 0
IsPlaceOf gens multi i = (i < length gens) × HoldsAt (λ (g : GenMark). g.multi ≡ multi) gens i

-- it stands at no place
abbrev pub IsMissing : List GenMark → ℕ → Type 0
IsMissing gens multi = (k : ℕ) → k < length gens → HoldsAt (λ (g : GenMark). g.multi ≡ multi → ⊥) gens k
