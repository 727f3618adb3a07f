-- The places at which a command's events stand.
use Rattle.std.specs.Prelude.{◌≡◌, ◌↔◌, ℕ, ◌⊎◌, List, [], ◌∷◌, Some, Contains, slice_get}
use Rattle.tx_events.specs.declared.event.By.{By}

-- these are the places of the command's events
abbrev pub ArePlacesOf : By → List By → List ℕ → Type 0
ArePlacesOf by bys places = (p : ℕ) → (slice_get bys p ≡ Some by) ↔ Contains places p

abbrev pub AnyPlace : (ℕ → Type 0) → List ℕ → Type 0
AnyPlace P [] = ⊥
AnyPlace P (p ∷ places) = P p ⊎ AnyPlace P places
