-- What the fields of a pass say of its names.
use Rattle.std.specs.Prelude.{◌≡◌, ◌≢◌, ℕ, Bool, true, false, List, slice_index_or, slice_set, replicate}
use Rattle.hall.specs.declared.names.Names.{Names}

-- just these names are held
abbrev pub AreHeld : List Bool → Names → Type 0
AreHeld holds names = (k : ℕ) → slice_index_or holds k false ≡ slice_index_or names.held k false

-- the name is held, and isn't the pass's own
abbrev pub IsGivable : Names → ℕ → Type 0
IsGivable names n = (slice_index_or names.held n false ≡ true) × (n ≢ names.own)

-- this name alone
abbrev pub only : ℕ → ℕ → List Bool
only count n = slice_set (replicate count false) n true
