-- What the fields of a pass say of its view.
use Rattle.std.specs.Prelude.{◌≡◌, ℕ, ◌<◌, Bool, false, List, [], ◌∷◌, map, length, is_some}
use Rattle.atomic_table.specs.Table.{Me}
use Rattle.hall.specs.declared.view.Stage.{Stage}
use Rattle.hall.specs.declared.view.Stage.TheVariants.{Free, Inside}
use Rattle.hall.specs.declared.view.View.{View}
use Rattle.hall.specs.declared.view.Held.{Held}
use Rattle.hall.specs.declared.names.Names.{Names}
use Rattle.hall.specs.Layout.{line_of}
use Rattle.hall.specs.Names.{AreHeld}
use Rattle.hall.specs.Rule.{Holds}

-- the slots that are with a pass at this stage: that of the lock that it is inside, whose value is out
abbrev pub carried_at : Stage → List (ℕ × Bool)
carried_at Free = []
carried_at (Inside c) = (c, false) ∷ []

module _ {S V E : Type 0} where
  -- the fields of a pass say what its view says
  pub record Fits (cells words cell : ℕ) (names : Names) (m : Me (Held V E) (View S E)) : Type 0 where
    pub named : Holds m.0 m.0.name
    pub wide : line_of (length m.0.seen) ≡ words
    pub inside : (c : ℕ) → m.0.stage ≡ Inside c → (c ≡ cell) × (c < cells)
    pub carried : map (λ x. (x.0, is_some x.1.value)) m.1 ≡ carried_at m.0.stage
    pub own : m.0.name ≡ names.own
    pub held : AreHeld m.0.holds names
