-- How many commands the rounds of a script have, and how many lines are told of them.
use Rattle.std.proofs.Common.{◌≡◌, ℕ, ◌+◌, ◌^◌, ◌<◌, ◌≤◌, ◌==◌, Bool, true, false, cond, List, [], ◌∷◌, ◌++◌, refl, sym, ap, subst, ◌∙◌, arith, length, map, length-append}
use Rattle.std.proofs.lemmas.List.{length-map}
use Rattle.std.proofs.lemmas.Grind.{flat_map-append}
use Rattle.std.proofs.lemmas.List.Elements.{filter-append, filter_map-append}
use Rattle.std.proofs.lemmas.List.Sums.{count_by-le-length, length-filter}
use Rattle.std.specs.List.{count_by, filter}
use Rattle.tx_model.specs.declared.command.Command.{Command}
use Rattle.tx_model.specs.declared.report.Line.{Line}
use Rattle.tx_model.specs.declared.report.Step.{Step}
use Rattle.tx_model.specs.declared.report.Step.TheVariants as steps
use Rattle.tx_model.specs.Asked as asked
use Rattle.tx_model.specs.Asked.{Asked, round_in, rounds_in}
use Rattle.tx_model.specs.Rounds.{AreSteps, is_round}
use Rattle.tx_model.specs.Lines.{AreLinesOf, grouped, turn_of}
use Rattle.life_law.specs.Commands.{makes_multi}
use Rattle.session_lang.specs.declared.script.Item.{Item}
use Rattle.session_lang.specs.Rounds.{asked_of, rounds_of}
use Rattle.session_lang.proofs.Asking.{rounds_asked}
use Rattle.run_law.specs.Turns.{HasFewTakers, takes_number, turns_in}
use Rattle.run_law.proofs.AllTurns.{Turns, all_turns, grouped_count, turns_of_all}
use Rattle.run_law.proofs.PartSums.{count_join}
use Rattle.run_law.proofs.Takers.{levels_take, multis_take}
use Rattle.script_rounds.proofs.RoundLemmas.{grouped_short, turns_short}
use Rattle.session_promise.specs.Promise.{is_made_level}
use Rattle.session_promise.specs.Told.{ToldRound, all_lines, steps_of, told_by}
use Rattle.session_promise.proofs.Telling.{lines_told}

-- each round's lines are its commands
abbrev pub AreRoundsOf : List Turns → List ToldRound → Type 0
AreRoundsOf [] [] = Unit {0}
AreRoundsOf (turns ∷ commands) (r ∷ rounds) = AreLinesOf turns r.lines × AreRoundsOf commands rounds
AreRoundsOf commands rounds = ⊥

-- so are the rounds among the steps
pub rounds_told : (n : ℕ) (all : List Asked) (ss : List Step) (rounds : List ToldRound) → AreSteps n all ss → filter is_round ss ≡ steps_of n rounds → AreRoundsOf (rounds_in all) rounds
rounds_told n [] [] [] a e = tt
rounds_told n [] [] (r ∷ rounds) a e = absurd cc
rounds_told n (asked.round turns ∷ more) (steps.Round number lines ∷ ss) [] a e = absurd cc
rounds_told n (asked.round turns ∷ more) (steps.Round number lines ∷ ss) (r ∷ rounds) a e =
    let same : lines ≡ r.lines = cc in
    let rest : filter is_round ss ≡ steps_of (n + 1) rounds = cc in
    (subst (AreLinesOf turns) same a.1, rounds_told (n + 1) more ss rounds a.2 rest)
rounds_told n (asked.dump what at size ∷ more) (steps.Dump of from count reply ∷ ss) rounds a e = rounds_told n more ss rounds a.3 e
rounds_told n (asked.checkpoint ∷ more) (steps.Checkpoint reply ∷ ss) rounds a e = rounds_told n more ss rounds a e
rounds_told n all ss rounds a e = absurd a

module _ (f : ℕ × Command → Bool) where
  lines_pass : (lines : List Line) → length (filter (λ l. f (turn_of l)) lines) ≡ length (filter f (map turn_of lines))
  lines_pass [] = refl
  lines_pass (l ∷ lines) = step (f (turn_of l)) (lines_pass lines)
    where
      step : (b : Bool) → length (filter (λ l. f (turn_of l)) lines) ≡ length (filter f (map turn_of lines)) → length (cond b (l ∷ filter (λ l. f (turn_of l)) lines) (filter (λ l. f (turn_of l)) lines)) ≡ length (cond b (turn_of l ∷ filter f (map turn_of lines)) (filter f (map turn_of lines)))
      step true i = omega (arith, i)
      step false i = i

  -- so of the lines of all rounds
  pub lines_fewer : (commands : List Turns) (rounds : List ToldRound) → AreRoundsOf commands rounds → length (filter (λ l. f (turn_of l)) (all_lines rounds)) ≤ count_by f (turns_of_all commands)
  lines_fewer [] [] a = omega arith
  lines_fewer (turns ∷ commands) (r ∷ rounds) a =
      let one = lines_pass r.lines in
      let told = ap (λ ts. length (filter f ts)) a.0 in
      let size = length-filter f (grouped turns) in
      let same = grouped_count f turns in
      let rest = lines_fewer commands rounds a.1 in
      let parts = ap length (filter-append (λ l. f (turn_of l)) r.lines (all_lines rounds)) in
      let sum = length-append (filter (λ l. f (turn_of l)) r.lines) (filter (λ l. f (turn_of l)) (all_lines rounds)) in
      let both = count_join f turns (turns_of_all commands) in
      omega (arith, one, told, size, same, rest, parts, sum, both)
  lines_fewer [] (r ∷ rounds) a = absurd a
  lines_fewer (turns ∷ commands) [] a = absurd a

-- few of the script's commands take a number: then so few lines
few_takers : (script : List Item) (rounds : List ToldRound) → AreRoundsOf (rounds_of script) rounds → HasFewTakers script → count_by (λ (l : Line). takes_number l.command) (all_lines rounds) < 2900000
few_takers script rounds a few =
    let size = length-filter (λ (l : Line). takes_number l.command) (all_lines rounds) in
    let less = lines_fewer (λ (t : ℕ × Command). takes_number t.1) (rounds_of script) rounds a in
    let same = ap (count_by (λ (t : ℕ × Command). takes_number t.1)) (all_turns script) in
    omega (arith, size, less, same, few)

-- so few of them make levels
pub few_levels : (script : List Item) (rounds : List ToldRound) → AreRoundsOf (rounds_of script) rounds → HasFewTakers script → count_by is_made_level (all_lines rounds) < 2900000
few_levels script rounds a few = let all = few_takers script rounds a few in let less = levels_take (λ (l : Line). l.command) (all_lines rounds) in omega (arith, all, less)

-- and so few multixacts
pub few_multis : (script : List Item) (rounds : List ToldRound) → AreRoundsOf (rounds_of script) rounds → HasFewTakers script → count_by (λ (l : Line). makes_multi l.command) (all_lines rounds) < 2900000
few_multis script rounds a few = let all = few_takers script rounds a few in let less = multis_take (λ (l : Line). l.command) (all_lines rounds) in omega (arith, all, less)

-- no more lines than commands
pub lines_short : (commands : List Turns) (rounds : List ToldRound) → AreRoundsOf commands rounds → length (all_lines rounds) ≤ length (turns_of_all commands)
lines_short [] [] a = omega arith
lines_short (turns ∷ commands) (r ∷ rounds) a =
    let one = length-map r.lines turn_of in
    let told = ap length a.0 in
    let few = grouped_short (map (λ (t : ℕ × Command). t.0) turns) turns in
    let rest = lines_short commands rounds a.1 in
    let sum = length-append r.lines (all_lines rounds) in
    let both = length-append turns (turns_of_all commands) in
    omega (arith, one, told, few, rest, sum, both)
lines_short [] (r ∷ rounds) a = absurd a
lines_short (turns ∷ commands) [] a = absurd a

-- and no more than a script may have
pub few_lines : (script : List Item) (rounds : List ToldRound) → AreRoundsOf (rounds_of script) rounds → length script ≤ 2 ^ 24 → length (all_lines rounds) ≤ 2 ^ 24
few_lines script rounds a few = omega (arith, lines_short (rounds_of script) rounds a, ap length (all_turns script), turns_short script, few)

-- a session has told no more lines than all
pub own_short : (n : ℕ) (rounds : List ToldRound) → length (told_by n rounds) ≤ length (all_lines rounds)
own_short n rounds =
    let a = length-map (told_by n rounds) (λ t. t.line) in
    let b = ap length (lines_told n rounds) in
    let c = length-filter (λ (l : Line). l.by.session == n) (all_lines rounds) in
    let d = count_by-le-length (λ (l : Line). l.by.session == n) (all_lines rounds) in
    omega (arith, a, b, c, d)

-- the rounds that were run, and those of the rest, are those of a short script
pub rounds_short : (script rest : List Item) (done : List Asked) → asked_of script ≡ done ++ asked_of rest → length (turns_of_all (rounds_in done)) + length (turns_in rest) ≤ length script
rounds_short script rest done e =
    let split : rounds_of script ≡ rounds_in done ++ rounds_of rest =
    sym (rounds_asked script) ∙ (ap rounds_in e ∙ (filter_map-append round_in done (asked_of rest) ∙ ap (λ rs. rounds_in done ++ rs) (rounds_asked rest))) in
    let a = ap length (sym (all_turns script) ∙ ap turns_of_all split ∙ flat_map-append (λ (ts : Turns). ts) (rounds_in done) (rounds_of rest)) in
    let b = length-append (turns_of_all (rounds_in done)) (turns_of_all (rounds_of rest)) in
    let c = ap length (all_turns rest) in
    let d = turns_short script in
    omega (arith, a, b, c, d)
