-- The passes of a table that its threads have.
use Rattle.std.specs.Prelude.{◌≡◌, ℕ, ◌<◌, ◌⊎◌, List, [], ◌∷◌, length, get_or}
use Rattle.hall.specs.declared.hall.Hall.{Hall}
use Rattle.hall.specs.declared.view.View.{View}
use Rattle.hall.specs.declared.view.Stage.TheVariants.{Free}
use Rattle.hall.specs.Calls.{view, IsOf}
use Rattle.hall.specs.Rule.{Holds}
use Rattle.parts_bench.specs.declared.hall_turns.Member.{Member}
use Rattle.parts_bench.specs.declared.hall_turns.Plain.{Plain}
use Rattle.parts_bench.specs.declared.hall_turns.Turn.{Turn}

module _ {S E X : Type 0} (pass_view : X → View S E) where
  -- one of these has the name
  abbrev pub HeldIn : List X → ℕ → Type 0
  HeldIn [] m = ⊥
  HeldIn (x ∷ xs) m = Holds (pass_view x) m ⊎ HeldIn xs m

  -- the host has each name, or one of these
  abbrev pub AllNames : ℕ → View S E → List X → Type 0
  AllNames passes host xs = (m : ℕ) → m < passes → Holds host m ⊎ HeldIn xs m

  -- each has the names that it had
  abbrev pub SameNames : List X → List X → Type 0
  SameNames xs ys = (i : ℕ) (d : X) → i < length xs → (pass_view (get_or ys i d)).holds ≡ (pass_view (get_or xs i d)).holds

-- what a member knows
abbrev pub pass_of : Member → View (Unit {0}) Turn
pass_of m = view m.pass

-- the member's pass is one of the table, and inside no lock
pub record IsFree (h : Hall Plain ℕ Turn (Unit {0})) (m : Member) : Type 0 where
  pub own : IsOf h m.pass
  pub free : (pass_of m).stage ≡ Free
