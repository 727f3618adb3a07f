-- A life is as short as its script: no more lines and rounds than commands.
use Rattle.std.proofs.Common.{◌≢◌, ℕ, ◌+◌, ◌<◌, ◌≤◌, List, [], ◌∷◌, refl, ap, arith, length, length-append}
use Rattle.std.proofs.lemmas.List.{length-map}
use Rattle.std.specs.List.{AllByRecursion, flat_map}
use Rattle.tx_model.specs.declared.command.Command.{Command}
use Rattle.tx_model.specs.declared.report.Step.{Step}
use Rattle.tx_model.specs.declared.report.Step.TheVariants as steps
use Rattle.tx_model.specs.Asked as asked
use Rattle.tx_model.specs.Asked.{Asked, rounds_in}
use Rattle.tx_model.specs.Rounds.{AreSteps, lines_in}
use Rattle.tx_model.specs.Lines.{turn_of}
use Rattle.report_words.specs.Fits.{FitsCommand}
use Rattle.report_lines.specs.Fits.{FitsDump}
use Rattle.run_report.proofs.Turns.{grouped_short, sessions_of}

-- what a script says of a command
pub record TurnFits (names : List (List ℕ)) (t : ℕ × Command) : Type 0 where
  pub session : t.0 < length names
  pub command : FitsCommand t.1

pub record RoundFits (names : List (List ℕ)) (turns : List (ℕ × Command)) : Type 0 where
  pub some : turns ≢ []
  pub each : AllByRecursion (TurnFits names) turns

-- what a script says of what it asks for
abbrev pub AskedFits : List (List ℕ) → Asked → Type 0
AskedFits names (asked.round turns) = RoundFits names turns
AskedFits names (asked.dump what at size) = FitsDump what at size
AskedFits names asked.checkpoint = Unit {0}

-- the sessions of the commands
abbrev pub sessions_asked : List Asked → List ℕ
sessions_asked all = flat_map sessions_of (rounds_in all)

-- no more lines than commands
pub lines_short : (n : ℕ) (all : List Asked) (ss : List Step) → AreSteps n all ss → length (flat_map lines_in ss) ≤ length (sessions_asked all)
lines_short n [] [] r = omega arith
lines_short n (asked.dump what at size ∷ all) (steps.Dump of from count reply ∷ ss) r = lines_short n all ss r.3
lines_short n (asked.checkpoint ∷ all) (steps.Checkpoint reply ∷ ss) r = lines_short n all ss r
lines_short n (asked.round turns ∷ all) (steps.Round number lines ∷ ss) r =
    let rest = lines_short (n + 1) all ss r.2 in
    let told = length-append lines (flat_map lines_in ss) in
    let commands = length-append (sessions_of turns) (sessions_asked all) in
    let same = ap length r.1 in
    let one = length-map lines turn_of in
    let each = length-map turns (λ (t : ℕ × Command). t.0) in
    let short = grouped_short turns in
    omega arith
lines_short n all ss r = absurd r

some_turn : (turns : List (ℕ × Command)) → turns ≢ [] → 1 ≤ length (sessions_of turns)
some_turn [] n = absurd (n refl)
some_turn (t ∷ turns) n = omega arith

-- nor more rounds
pub rounds_short : (names : List (List ℕ)) (all : List Asked) → AllByRecursion (AskedFits names) all → length (rounds_in all) ≤ length (sessions_asked all)
rounds_short names [] a = omega arith
rounds_short names (asked.dump what at size ∷ all) a = rounds_short names all a.1
rounds_short names (asked.checkpoint ∷ all) a = rounds_short names all a.1
rounds_short names (asked.round turns ∷ all) a =
    let rest = rounds_short names all a.1 in
    let commands = length-append (sessions_of turns) (sessions_asked all) in
    let some = some_turn turns a.0.some in
    omega arith
