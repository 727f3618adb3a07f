-- Each round has 64 transactions at most, and so few commands.
use Rattle.std.proofs.Common.{◌≡◌, ℕ, ◌+◌, ◌*◌, ◌%◌, ◌≤◌, zero, suc, List, [], ◌∷◌, ◌++◌, length, map, refl, sym, ap, arith, Bool, true, false, ◌==◌, cond, ◌∙◌, append_assoc, subst, length-append}
use Rattle.std.specs.List.{All}
use Rattle.std.proofs.lemmas.List.{append-nil}
use Rattle.std.proofs.lemmas.List.Elements.{All-append, All-cons, All-nil}
use Rattle.std.proofs.lemmas.Bool.Decides.{nat_tests}
use Rattle.script_gen.specs.Choices.{behind_count, behind_transaction, choices, drawn_from, is_deep, savepoints}
use Rattle.script_gen.specs.Generated.{is_round_first, items_from, run_by, session_of, transaction}
use Rattle.script_gen.proofs.Bounds.{transaction_size, undone_count}
use Rattle.tx_model.specs.declared.command.Command.{Command}
use Rattle.tx_events.proofs.ListSteps.{filter_length}
use Rattle.session_lang.specs.declared.script.Item.{Item}
use Rattle.session_lang.specs.declared.script.Item.TheVariants as items
use Rattle.session_lang.specs.Rounds.{IsShort, round_of, rounds_from, rounds_of}

few_are_short : (turns : List (ℕ × Command)) → length turns ≤ 100000 → IsShort turns
few_are_short turns l = λ session. let f = filter_length (λ (t : ℕ × Command). t.0 == session) turns in omega arith

one_round : (turns : List (ℕ × Command)) → length turns ≤ 100000 → All IsShort (round_of turns)
one_round [] l = All-nil IsShort
one_round (t ∷ turns) l = All-cons IsShort (t ∷ turns) [] (few_are_short (t ∷ turns) l) (All-nil IsShort)

-- a session's commands
abbrev added : ℕ → List Command → List (ℕ × Command)
added k all = map (λ c. (k, c)) all

-- commands in a row go on with the round
run_on : (turns : List (ℕ × Command)) (k : ℕ) (all : List Command) (rest : List Item) → rounds_from turns (run_by k all ++ rest) ≡ rounds_from (turns ++ added k all) rest
run_on turns k [] rest = ap (λ t. rounds_from t rest) (sym (append-nil turns))
run_on turns k (c ∷ all) rest =
    run_on (turns ++ (k, c) ∷ []) k all rest ∙ ap (λ t. rounds_from t rest) (append_assoc turns ((k, c) ∷ []) (added k all))

not_deeper : (i s : ℕ) (b : Bool) → is_deep i ≡ b → savepoints i s ≤ 120
not_deeper i s true e = rw e (omega arith)
not_deeper i s false e = rw e (omega arith)

few_commands : (i s : ℕ) → length (transaction (choices i s)) ≤ 366
few_commands i s =
    let n = undone_count (savepoints i s) (behind_count i s) in
    let m = not_deeper i s (is_deep i) refl in
    let t = transaction_size (choices i s) in
    omega arith

added_count : (k : ℕ) (all : List Command) → length (added k all) ≡ length all
added_count k [] = refl
added_count k (c ∷ all) = ap suc (added_count k all)

grown : (turns : List (ℕ × Command)) (k : ℕ) (all : List Command) → length all ≤ 366 → length (turns ++ added k all) ≤ length turns + 366
grown turns k all l =
    let joined = length-append turns (added k all) in
    let size = added_count k all in
    omega arith

-- the round that goes on before transaction i
record IsOpen (i : ℕ) (turns : List (ℕ × Command)) : Type 0 where
  few : length turns ≤ 23424
  within : is_round_first i ≡ false → length turns ≤ 366 * (i % 64)

next_place : (i : ℕ) → is_round_first (i + 1) ≡ false → (i + 1) % 64 ≡ i % 64 + 1
next_place i e = grind (arith, nat_tests)

opened : (i s : ℕ) (turns : List (ℕ × Command)) → length turns ≤ 366 * (i % 64) → IsOpen (i + 1) (turns ++ added (session_of i) (transaction (choices i s)))
opened i s turns l =
    let g = grown turns (session_of i) (transaction (choices i s)) (few_commands i s) in
    record { few = omega arith; within = λ e. let n = next_place i e in omega arith }

at_first : (i : ℕ) → is_round_first i ≡ true → i % 64 ≡ 0
at_first i e = grind (arith, nat_tests)

step_by : (i s : ℕ) (b : Bool) (turns : List (ℕ × Command)) (rest : List Item) → is_round_first i ≡ b → IsOpen i turns → ((new : List (ℕ × Command)) → IsOpen (i + 1) new → All IsShort (rounds_from new rest)) → All IsShort (rounds_from turns ((cond b (items.Round ∷ []) [] ++ run_by (session_of i) (transaction (choices i s))) ++ rest))
step_by i s true turns rest e o f =
    let first = at_first i e in
    All-append IsShort (round_of turns) (rounds_from [] (run_by (session_of i) (transaction (choices i s)) ++ rest)) (let l = o.few in one_round turns (omega arith))
    (subst (All IsShort) (sym (run_on [] (session_of i) (transaction (choices i s)) rest)) (f _ (opened i s [] (omega arith))))
step_by i s false turns rest e o f =
    subst (All IsShort) (sym (run_on turns (session_of i) (transaction (choices i s)) rest)) (f _ (opened i s turns (o.within e)))

short_from : (i n s : ℕ) (turns : List (ℕ × Command)) → IsOpen i turns → All IsShort (rounds_from turns (items_from i (drawn_from i n s)))
short_from i zero s turns o = let l = o.few in one_round turns (omega arith)
short_from i (suc n) s turns o =
    step_by i s (is_round_first i) turns (items_from (i + 1) (drawn_from (i + 1) n (behind_transaction i s))) refl o
    (λ new p. short_from (i + 1) n (behind_transaction i s) new p)

pub rounds_short : (seed size : ℕ) → All IsShort (rounds_of (items_from 0 (drawn_from 0 size seed)))
rounds_short seed size = short_from 0 size seed [] (record { few = omega arith; within = λ e. omega arith })
