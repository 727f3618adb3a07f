-- The lines of a round, put session by session.
use Rattle.std.specs.Prelude.{◌≡◌, ℕ, ◌==◌, List, [], Contains, map}
use Rattle.std.specs.List.{AllByRecursion, filter, flat_map}
use Rattle.tx_events.specs.Places.{first_seen}
use Rattle.tx_model.specs.declared.command.Command.{Command}
use Rattle.tx_model.specs.declared.report.Line.{Line}
use Rattle.tx_model.specs.Lines.{AreLinesOf, turn_of}
use Rattle.session_promise.specs.Told.{lines_by}

-- the lines that a session told in the round
pub record RoundPart : Type 0 where
  pub session : ℕ
  pub lines : List Line

abbrev pub sessions_of : List RoundPart → List ℕ
sessions_of parts = map (λ p. p.session) parts

abbrev pub lines_of_parts : List RoundPart → List Line
lines_of_parts parts = flat_map (λ p. p.lines) parts

-- the session's lines are its commands of the round
abbrev pub IsPartOf : List (ℕ × Command) → RoundPart → Type 0
IsPartOf turns p = map turn_of p.lines ≡ filter (λ t. t.0 == p.session) turns

-- a part for each session of the round, in the order in which the sessions first appear
pub record ArePartsOf (turns : List (ℕ × Command)) (parts : List RoundPart) : Type 0 where
  pub order : sessions_of parts ≡ first_seen (map (λ t. t.0) turns)
  pub each : AllByRecursion (IsPartOf turns) parts

-- The parts one after another are the round's lines in the report's order, and each session's lines among them are its
-- part; a session without one has none.
pub record ArePut (turns : List (ℕ × Command)) (parts : List RoundPart) : Type 0 where
  pub told : AreLinesOf turns (lines_of_parts parts)
  pub part : (p : RoundPart) → Contains parts p → lines_by p.session (lines_of_parts parts) ≡ p.lines
  pub idle : (n : ℕ) → (Contains (sessions_of parts) n → ⊥) → lines_by n (lines_of_parts parts) ≡ []

abbrev pub PartsMakeRound : Type 0
PartsMakeRound = (turns : List (ℕ × Command)) (parts : List RoundPart) → ArePartsOf turns parts → ArePut turns parts
