-- A round more, in the script and in what is kept.
use Rattle.std.proofs.Common.{◌≡◌, ◌↔◌, ℕ, Bool, ◌+◌, ◌<◌, ◌≤◌, List, [], ◌∷◌, ◌++◌, refl, sym, ap, subst, ◌∙◌, arith, ⊎_elim, false, true, get_or, length, append-nil, append_assoc, length-append, add-zero}
use Rattle.std.proofs.lemmas.Grind.{flat_map-append}
use Rattle.std.proofs.lemmas.List.Elements.{All-from_recursion, recursion_from_All}
use Rattle.std.proofs.lemmas.Bool.{false≢true}
use Rattle.std.specs.List.{All, AllByRecursion, flat_map}
use Rattle.tx_model.specs.declared.reply.Reply.{Reply}
use Rattle.tx_model.specs.declared.report.DumpOf.{DumpOf}
use Rattle.tx_model.specs.declared.report.Line.{Line}
use Rattle.tx_model.specs.declared.report.Step.{Step}
use Rattle.tx_model.specs.declared.report.Step.TheVariants as steps
use Rattle.tx_model.specs.Asked as asked
use Rattle.tx_model.specs.Asked.{Asked, rounds_in}
use Rattle.tx_model.specs.Rounds.{AreSteps, lines_in}
use Rattle.tx_model.specs.Lines.{AreLinesOf}
use Rattle.report_text.specs.ReportText.{command_line, round_line, step_text}
use Rattle.session_lang.specs.declared.script.Item.{Item}
use Rattle.session_lang.specs.declared.script.Item.TheVariants as items
use Rattle.session_lang.specs.Rounds.{asked_at, asked_in, asked_of, asked_round}
use Rattle.run_law.specs.Turns.{IsFirstRound, MayRun, is_command, turns_in}
use Rattle.script_rounds.specs.declared.keeper.LineKeeper as keepers
use Rattle.script_rounds.proofs.ListLemmas.{all_front}
use Rattle.script_rounds.proofs.RoundLemmas.{first_asked, turns_short}
use Rattle.session_promise.specs.Told.{ToldRound, steps_of}
use Rattle.session_run.specs.Parts.{with_steps}
use Rattle.run_law.proofs.AllTurns.{Turns}
use Rattle.session_run.proofs.RoundCounts.{AreRoundsOf}

-- the text of a round's step
one_round : (names : List (List ℕ)) (number : ℕ) (lines : List Line) → flat_map (step_text names) (steps.Round number lines ∷ []) ≡ round_line number ++ flat_map (command_line names) lines
unfolding step_text
one_round names number lines = append-nil (round_line number ++ flat_map (command_line names) lines)

pub not_empty : {X : Type 0} (xs : List X) (b : Bool) → ((b ≡ true) ↔ (xs ≡ [])) → b ≡ false → 0 < length xs
not_empty [] b k e = absurd (false≢true (sym e ∙ k.1 refl))
not_empty (x ∷ xs) b k e = omega arith

-- ---- in the script

pub asked_on : (script rest round behind : List Item) (done : List Asked) → asked_of script ≡ done ++ asked_of rest → IsFirstRound rest round behind → asked_of script ≡ ((done ++ asked_round (turns_in round)) ++ asked_at rest (length round)) ++ asked_of behind
asked_on script rest round behind done e f =
    let first = asked_round (turns_in round) in
    let then = asked_at rest (length round) in
    e
    ∙ ap (λ t. done ++ t) (first_asked rest round behind (recursion_from_All (λ item. is_command item ≡ true) round f.commands) f.split)
    ∙ sym (append_assoc done first (then ++ asked_of behind))
    ∙ sym (append_assoc (done ++ first) then (asked_of behind))

pub all_parts : (P : Item → Type 0) (script round rest : List Item) → IsFirstRound script round rest → All P script → All P round × All P rest
all_parts P script round rest f a = ⊎_elim
    (λ (b : (script ≡ round) × (rest ≡ [])). (subst (All P) b.0 a, subst (All P) (sym b.1) (All-from_recursion P [] tt)))
    (λ (b : (d : Item) × (is_command d ≡ false) × (script ≡ round ++ d ∷ rest)).
    let c = all_front P round (b.0 ∷ rest) (recursion_from_All P (round ++ b.0 ∷ rest) (subst (All P) b.2 a)) in
    (All-from_recursion P round c.0, All-from_recursion P rest c.1.1))
    f.split

pub parts_length : (script round rest : List Item) → IsFirstRound script round rest → length round + length rest ≤ length script
parts_length script round rest f = ⊎_elim
    (λ (b : (script ≡ round) × (rest ≡ [])). omega (arith, ap length b.0, ap length b.1))
    (λ (b : (d : Item) × (is_command d ≡ false) × (script ≡ round ++ d ∷ rest)). omega (arith, ap length b.2, length-append round (b.0 ∷ rest)))
    f.split

pub rest_shorter : (script round rest : List Item) → IsFirstRound script round rest → 0 < length script → length rest < length script
rest_shorter script round rest f some = ⊎_elim
    (λ (b : (script ≡ round) × (rest ≡ [])). omega (arith, ap length b.1))
    (λ (b : (d : Item) × (is_command d ≡ false) × (script ≡ round ++ d ∷ rest)). omega (arith, ap length b.2, length-append round (b.0 ∷ rest)))
    f.split

-- a round that has commands
pub some_round : (round : List Item) → AllByRecursion (λ item. is_command item ≡ true) round → 0 < length round → asked_round (turns_in round) ≡ asked.round (turns_in round) ∷ []
some_round [] a l = absurd (omega arith)
some_round (items.Run s c ∷ round) a l = refl
some_round (items.Round ∷ round) a l = absurd (false≢true a.0)
some_round (items.Checkpoint ∷ round) a l = absurd (false≢true a.0)
some_round (items.Crash how ∷ round) a l = absurd (false≢true a.0)
some_round (items.Dump what at size ∷ round) a l = absurd (false≢true a.0)

-- its first one is a session's
pub some_session : (n : ℕ) (round : List Item) → AllByRecursion (λ item. is_command item ≡ true) round → AllByRecursion (MayRun n) round → 0 < length round → 1 ≤ n
some_session n [] a may l = absurd (omega arith)
some_session n (items.Run s c ∷ round) a may l = let low = may.0.1 in omega (arith, low)
some_session n (items.Round ∷ round) a may l = absurd (false≢true a.0)
some_session n (items.Checkpoint ∷ round) a may l = absurd (false≢true a.0)
some_session n (items.Crash how ∷ round) a may l = absurd (false≢true a.0)
some_session n (items.Dump what at size ∷ round) a may l = absurd (false≢true a.0)

pub no_round : (round : List Item) → length round ≡ 0 → asked_round (turns_in round) ≡ []
no_round [] e = refl
no_round (x ∷ round) e = absurd (omega (arith, e))

few_rounds : (turns : Turns) → length (rounds_in (asked_round turns)) ≤ length turns
few_rounds [] = omega arith
few_rounds (t ∷ turns) = omega arith

-- a round is no longer than its commands
pub round_short : (round : List Item) → length (rounds_in (asked_round (turns_in round))) ≤ length round
round_short round = omega (arith, few_rounds (turns_in round), turns_short round)

-- a directive is no round
pub no_rounds : (script : List Item) (place : ℕ) → rounds_in (asked_at script place) ≡ []
no_rounds script place = by (get_or script place items.Round)
  where
    by : (item : Item) → rounds_in (asked_in item) ≡ []
    by (items.Dump what at size) = refl
    by item = refl

-- ---- in what is kept

pub as_many : (commands : List Turns) (rounds : List ToldRound) → AreRoundsOf commands rounds → length rounds ≡ length commands
as_many [] [] a = refl
as_many (turns ∷ commands) (r ∷ rounds) a = let e = as_many commands rounds a.1 in omega (arith, e)
as_many [] (r ∷ rounds) a = absurd a
as_many (turns ∷ commands) [] a = absurd a

-- one more round, one more dump, and one more checkpoint
pub round_push : (n number : ℕ) (all : List Asked) (ss : List Step) (turns : Turns) (lines : List Line) → AreSteps n all ss → number ≡ n + length (rounds_in all) → AreLinesOf turns lines → AreSteps n (all ++ asked.round turns ∷ []) (ss ++ steps.Round number lines ∷ [])
round_push n number [] [] turns lines a e l = (omega (arith, e), l, tt)
round_push n number (asked.round ts ∷ all) (steps.Round m ls ∷ ss) turns lines a e l = (a.0, a.1, round_push (n + 1) number all ss turns lines a.2 (omega (arith, e)) l)
round_push n number (asked.dump what at size ∷ all) (steps.Dump of from count reply ∷ ss) turns lines a e l = (a.0, a.1, a.2, round_push n number all ss turns lines a.3 e l)
round_push n number (asked.checkpoint ∷ all) (steps.Checkpoint reply ∷ ss) turns lines a e l = round_push n number all ss turns lines a e l
round_push n number all ss turns lines a e l = absurd a

pub dump_push : (n : ℕ) (all : List Asked) (ss : List Step) (what : DumpOf) (at size : ℕ) (reply : Reply) → AreSteps n all ss → AreSteps n (all ++ asked.dump what at size ∷ []) (ss ++ steps.Dump what at size reply ∷ [])
dump_push n [] [] what at size reply a = (refl, refl, refl, tt)
dump_push n (asked.round ts ∷ all) (steps.Round m ls ∷ ss) what at size reply a = (a.0, a.1, dump_push (n + 1) all ss what at size reply a.2)
dump_push n (asked.dump w from k ∷ all) (steps.Dump of place count r ∷ ss) what at size reply a = (a.0, a.1, a.2, dump_push n all ss what at size reply a.3)
dump_push n (asked.checkpoint ∷ all) (steps.Checkpoint r ∷ ss) what at size reply a = dump_push n all ss what at size reply a
dump_push n all ss what at size reply a = absurd a

pub checkpoint_push : (n : ℕ) (all : List Asked) (ss : List Step) (reply : Reply) → AreSteps n all ss → AreSteps n (all ++ asked.checkpoint ∷ []) (ss ++ steps.Checkpoint reply ∷ [])
checkpoint_push n [] [] reply a = tt
checkpoint_push n (asked.round ts ∷ all) (steps.Round m ls ∷ ss) reply a = (a.0, a.1, checkpoint_push (n + 1) all ss reply a.2)
checkpoint_push n (asked.dump w from k ∷ all) (steps.Dump of place count r ∷ ss) reply a = (a.0, a.1, a.2, checkpoint_push n all ss reply a.3)
checkpoint_push n (asked.checkpoint ∷ all) (steps.Checkpoint r ∷ ss) reply a = checkpoint_push n all ss reply a
checkpoint_push n all ss reply a = absurd a

pub steps_push : (n : ℕ) (rounds : List ToldRound) (r : ToldRound) → steps_of n (rounds ++ r ∷ []) ≡ steps_of n rounds ++ steps.Round (n + length rounds) r.lines ∷ []
steps_push n [] r = ap (λ m. steps.Round m r.lines ∷ []) (sym (add-zero n))
steps_push n (s ∷ rounds) r =
    ap (λ (ss : List Step). steps.Round n s.lines ∷ ss)
    (steps_push (n + 1) rounds r ∙ ap (λ m. steps_of (n + 1) rounds ++ steps.Round m r.lines ∷ []) (omega arith))

module _ {K : Type 0} (keep : keepers.Ghosts K) where
  -- what is kept of the steps, with one more
  pub kept_push : (names : List (List ℕ)) (kept : K) (ss : List Step) (step : Step) → with_steps keep names kept (ss ++ step ∷ []) ≡ with_steps keep names (with_steps keep names kept ss) (step ∷ [])
  kept_push names kept [] step = refl
  kept_push names kept (steps.Round number lines ∷ ss) step = kept_push names (keep.with_lines names (keep.with_round kept number) lines) ss step
  kept_push names kept (steps.Checkpoint reply ∷ ss) step = kept_push names (keep.with_step names kept (steps.Checkpoint reply)) ss step
  kept_push names kept (steps.Dump what at size reply ∷ ss) step = kept_push names (keep.with_step names kept (steps.Dump what at size reply)) ss step

-- as their text
text_behind : (names : List (List ℕ)) (text mid all : List ℕ) (step : Step) (ss : List Step) → mid ≡ text ++ flat_map (step_text names) (step ∷ []) → all ≡ mid ++ flat_map (step_text names) ss → all ≡ text ++ flat_map (step_text names) (step ∷ ss)
text_behind names text mid all step ss one rest =
    rest
    ∙ ap (λ t. t ++ flat_map (step_text names) ss) one
    ∙ append_assoc text (flat_map (step_text names) (step ∷ [])) (flat_map (step_text names) ss)
    ∙ ap (λ t. text ++ t) (sym (flat_map-append (step_text names) (step ∷ []) ss))

module _ (keep : keepers.Ghosts (List ℕ)) (names : List (List ℕ)) (round : (text : List ℕ) (n : ℕ) → keep.with_round text n ≡ text ++ round_line n)
    (lines : (text : List ℕ) (ls : List Line) → keep.with_lines names text ls ≡ text ++ flat_map (command_line names) ls) (dump : (text : List ℕ) (step : Step) → keep.with_step names text step ≡ text ++ step_text names step) where
  dump_behind : (text : List ℕ) (step : Step) → keep.with_step names text step ≡ text ++ flat_map (step_text names) (step ∷ [])
  dump_behind text step = dump text step ∙ ap (λ t. text ++ t) (sym (append-nil (step_text names step)))

  steps_text : (text : List ℕ) (ss : List Step) → with_steps keep names text ss ≡ text ++ flat_map (step_text names) ss
  steps_text text [] = sym (append-nil text)
  steps_text text (steps.Round number ls ∷ ss) =
      let mid = keep.with_lines names (keep.with_round text number) ls in
      text_behind names text mid (with_steps keep names mid ss) (steps.Round number ls) ss
      (lines (keep.with_round text number) ls ∙ ap (λ t. t ++ flat_map (command_line names) ls) (round text number)
      ∙ append_assoc text (round_line number) (flat_map (command_line names) ls) ∙ ap (λ t. text ++ t) (sym (one_round names number ls)))
      (steps_text mid ss)
  steps_text text (steps.Checkpoint reply ∷ ss) =
      let mid = keep.with_step names text (steps.Checkpoint reply) in
      text_behind names text mid (with_steps keep names mid ss) (steps.Checkpoint reply) ss (dump_behind text (steps.Checkpoint reply)) (steps_text mid ss)
  steps_text text (steps.Dump what at size reply ∷ ss) =
      let mid = keep.with_step names text (steps.Dump what at size reply) in
      text_behind names text mid (with_steps keep names mid ss) (steps.Dump what at size reply) ss (dump_behind text (steps.Dump what at size reply)) (steps_text mid ss)

pub kept_text : (keep : keepers.Ghosts (List ℕ)) (names : List (List ℕ)) (front text : List ℕ) (ss : List Step)
    → text ≡ with_steps keep names front ss
    → ((text : List ℕ) (n : ℕ) → keep.with_round text n ≡ text ++ round_line n)
    → ((text : List ℕ) (ls : List Line) → keep.with_lines names text ls ≡ text ++ flat_map (command_line names) ls)
    → ((text : List ℕ) (step : Step) → keep.with_step names text step ≡ text ++ step_text names step)
    → text ≡ front ++ flat_map (step_text names) ss
kept_text keep names front text ss e round lines dump = e ∙ steps_text keep names round lines dump front ss

-- as the lines themselves
module _ (keep : keepers.Ghosts (List Line)) (names : List (List ℕ)) (round : (kept : List Line) (n : ℕ) → keep.with_round kept n ≡ kept)
    (lines : (kept ls : List Line) → keep.with_lines names kept ls ≡ kept ++ ls) (dump : (kept : List Line) (step : Step) → keep.with_step names kept step ≡ kept) where
  steps_lines : (kept : List Line) (ss : List Step) → with_steps keep names kept ss ≡ kept ++ flat_map lines_in ss
  steps_lines kept [] = sym (append-nil kept)
  steps_lines kept (steps.Round number ls ∷ ss) =
      steps_lines (keep.with_lines names (keep.with_round kept number) ls) ss
      ∙ ap (λ t. t ++ flat_map lines_in ss) (lines (keep.with_round kept number) ls ∙ ap (λ t. t ++ ls) (round kept number))
      ∙ append_assoc kept ls (flat_map lines_in ss)
  steps_lines kept (steps.Checkpoint reply ∷ ss) = steps_lines (keep.with_step names kept (steps.Checkpoint reply)) ss ∙ ap (λ t. t ++ flat_map lines_in ss) (dump kept (steps.Checkpoint reply))
  steps_lines kept (steps.Dump what at size reply ∷ ss) =
      steps_lines (keep.with_step names kept (steps.Dump what at size reply)) ss ∙ ap (λ t. t ++ flat_map lines_in ss) (dump kept (steps.Dump what at size reply))

pub kept_lines : (keep : keepers.Ghosts (List Line)) (names : List (List ℕ)) (first kept : List Line) (ss : List Step)
    → kept ≡ with_steps keep names first ss → first ≡ []
    → ((kept : List Line) (n : ℕ) → keep.with_round kept n ≡ kept)
    → ((kept ls : List Line) → keep.with_lines names kept ls ≡ kept ++ ls)
    → ((kept : List Line) (step : Step) → keep.with_step names kept step ≡ kept)
    → kept ≡ flat_map lines_in ss
kept_lines keep names first kept ss e none round lines dump = e ∙ steps_lines keep names round lines dump first ss ∙ ap (λ t. t ++ flat_map lines_in ss) none
