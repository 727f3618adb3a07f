-- The steps of a life, and the life that begins a log.
use Rattle.std.specs.Prelude.{◌≡◌, ℕ, ◌+◌, Bool, false, true, IsTrue, List, [], ◌∷◌, ◌++◌, take}
use Rattle.std.specs.List.{All, flat_map}
use Rattle.tx_events.specs.declared.event.Event.{Event}
use Rattle.tx_events.specs.declared.record.Counters.{Counters}
use Rattle.tx_model.specs.declared.report.Line.{Line}
use Rattle.tx_model.specs.declared.report.Step.{Step}
use Rattle.tx_model.specs.declared.report.Step.TheVariants as steps
use Rattle.tx_model.specs.declared.report.Life.{Life}
use Rattle.tx_model.specs.Asked as asked
use Rattle.tx_model.specs.Asked.{Asked}
use Rattle.tx_model.specs.Lines.{AreLinesOf, has_line}

abbrev pub lines_in : Step → List Line
lines_in (steps.Round number lines) = lines
lines_in _ = []

abbrev pub is_round : Step → Bool
is_round (steps.Round number lines) = true
is_round _ = false

-- the steps are what was asked, the rounds numbered on from n
abbrev pub AreSteps : ℕ → List Asked → List Step → Type 0
AreSteps n [] [] = Unit {0}
AreSteps n (asked.round turns ∷ more) (steps.Round number lines ∷ rest) =
    (number ≡ n) × AreLinesOf turns lines × AreSteps (n + 1) more rest
AreSteps n (asked.dump what at size ∷ more) (steps.Dump of from count reply ∷ rest) =
    (of ≡ what) × (from ≡ at) × (count ≡ size) × AreSteps n more rest
AreSteps n (asked.checkpoint ∷ more) (steps.Checkpoint reply ∷ rest) = AreSteps n more rest
AreSteps n more rest = ⊥

-- the events of these lines stand before all others
pub record StandFirst (h : List Event) (lines : List Line) : Type 0 where
  pub first : List Event
  pub behind : List Event
  pub split : h ≡ first ++ behind
  pub theirs : All (λ e. IsTrue (has_line lines e)) first
  pub others : All (λ e. has_line lines e ≡ false) behind

-- the events of each round stand before those of the rounds behind it
abbrev pub AreInTurn : List Event → List Step → Type 0
AreInTurn h steps = (n : ℕ) → StandFirst h (flat_map lines_in (take n steps))

-- the life that begins a new log has these counters, and nothing committed or recorded before it
pub record BeginsLog (base : Counters) (life : Life) : Type 0 where
  pub from : life.from ≡ 0
  pub base_is : life.base ≡ base
  pub committed : life.committed ≡ []
  pub recorded : life.recorded ≡ []
