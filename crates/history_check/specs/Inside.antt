-- The open ids that were given in a savepoint, by their places.
use Rattle.std.specs.Prelude.{◌≡◌, ℕ, ◌<◌, true, List, Contains, is_some, length}
use Rattle.std.specs.List.{AllByRecursion, HoldsAt}
use Rattle.tx_events.specs.declared.event.Event.{Event}
use Rattle.tx_events.specs.Savepoints.{is_inside}
use Rattle.history_check.specs.declared.links.Slot.{Slot}

-- what stands at place k is this id, is open and no top
abbrev pub IsSubAt : List Slot → ℕ → ℕ → Type 0
IsSubAt slots id k = (k < length slots) × HoldsAt (λ (s : Slot). (s.is_open ≡ true) × (is_some s.linked.parent ≡ true) × (s.linked.id ≡ id)) slots k

-- where the id stands, if it is an open sub
pub record IsStart (slots : List Slot) (id : ℕ) (found : List ℕ) : Type 0 where
  pub only : AllByRecursion (IsSubAt slots id) found
  pub all : (k : ℕ) → IsSubAt slots id k → Contains found k

-- what stands at place k is open and was given in the savepoint of id
abbrev pub IsInsideAt : List Event → ℕ → List Slot → ℕ → Type 0
IsInsideAt h id slots k = (k < length slots) × HoldsAt (λ (s : Slot). (s.is_open ≡ true) × (is_inside h id s.linked.id ≡ true)) slots k

-- these are the places of all such
pub record AreInside (h : List Event) (id : ℕ) (slots : List Slot) (found : List ℕ) : Type 0 where
  pub only : AllByRecursion (IsInsideAt h id slots) found
  pub all : (k : ℕ) → IsInsideAt h id slots k → Contains found k
