-- How many commands take a number, and what each item of a script is.
use Rattle.std.proofs.Common.{◌≡◌, ℕ, ◌+◌, ◌<◌, ◌≤◌, min, List, [], ◌∷◌, ◌++◌, length, refl, ap, arith, Bool, true, false, cond, ◌∙◌}
use Rattle.std.specs.List.{All, AllByRecursion, count_by, flat_map, sum_by}
use Rattle.std.proofs.lemmas.List.Elements.{All-cons, All-nil, filter_map-append}
use Rattle.std.proofs.lemmas.List.Sums.{sum_by-append, sum_by-cons}
use Rattle.tx_events.specs.Names.{is_name}
use Rattle.tx_model.specs.declared.command.Command.{Command}
use Rattle.tx_model.specs.declared.command.Command.TheVariants as commands
use Rattle.session_lang.specs.declared.script.Item.{Item}
use Rattle.session_lang.specs.declared.script.Item.TheVariants as items
use Rattle.session_lang.specs.Plain.{IsInRange}
use Rattle.run_law.specs.Turns.{MayRun, has_command, takers_in, takes_number, turn_in, turns_in}
use Rattle.script_gen.specs.Choices.{Choices, choices, drawn_from}
use Rattle.script_gen.specs.Generated.{end_command, is_round_first, items_from, look_commands, run_by, savepoint_commands, session_names, session_of, transaction, transaction_items}
use Rattle.script_gen.proofs.Bounds.{all_few, few_savepoints, most_savepoints}
use Rattle.script_gen.proofs.Ranges.{IsDrawn, each_item}
use Rattle.script_gen.proofs.Sessions.{names_count}

-- ---- commands that take a number

level : Command → ℕ
level c = cond (takes_number c) 1 0

levels : List Command → ℕ
levels all = sum_by level all

one_savepoint : (undone : Bool) → levels (savepoint_commands undone) ≡ 1
unfolding levels level
one_savepoint true = refl
one_savepoint false = refl

savepoint_levels : (undone : List Bool) → levels (flat_map savepoint_commands undone) ≡ length undone
unfolding levels
savepoint_levels [] = refl
savepoint_levels (b ∷ undone) =
    let j = sum_by-append level (savepoint_commands b) (flat_map savepoint_commands undone) in
    let one = one_savepoint b in
    let i = savepoint_levels undone in
    omega arith

no_end : (aborted : Bool) → level (end_command aborted) ≡ 0
unfolding level
no_end true = refl
no_end false = refl

transaction_levels : (c : Choices) → levels (transaction c) ≡ 1 + length c.undone
unfolding levels level
transaction_levels c =
    let rest = flat_map savepoint_commands c.undone ++ (look_commands c.seen ++ end_command c.aborted ∷ []) in
    let b = sum_by-cons level commands.Begin (commands.Write ∷ rest) in
    let w = sum_by-cons level commands.Write rest in
    let j = sum_by-append level (flat_map savepoint_commands c.undone) (look_commands c.seen ++ end_command c.aborted ∷ []) in
    let u = savepoint_levels c.undone in
    let e = no_end c.aborted in
    omega arith

levels_join : (xs ys : List Item) → takers_in (xs ++ ys) ≡ takers_in xs + takers_in ys
levels_join xs ys =
    ap (count_by (λ (t : ℕ × Command). takes_number t.1)) (filter_map-append turn_in xs ys)
    ∙ sum_by-append (λ (t : ℕ × Command). cond (takes_number t.1) 1 0) (turns_in xs) (turns_in ys)

run_levels : (k : ℕ) (all : List Command) → takers_in (run_by k all) ≡ levels all
unfolding levels level
run_levels k [] = refl
run_levels k (c ∷ all) =
    let i = run_levels k all in
    let a = sum_by-cons (λ (t : ℕ × Command). cond (takes_number t.1) 1 0) (k, c) (turns_in (run_by k all)) in
    let b = sum_by-cons level c all in
    omega arith

no_round_levels : (b : Bool) → takers_in (cond b (items.Round ∷ []) []) ≡ 0
no_round_levels true = refl
no_round_levels false = refl

most_levels : ℕ → ℕ
most_levels i = i + most_savepoints i

few_more : (i s : ℕ) → takers_in (transaction_items i (choices i s)) + most_levels i ≤ most_levels (i + 1)
unfolding most_levels
few_more i s =
    let c = choices i s in
    let j = levels_join (cond (is_round_first i) (items.Round ∷ []) []) (run_by (session_of i) (transaction c)) in
    let z = no_round_levels (is_round_first i) in
    let r = run_levels (session_of i) (transaction c) in
    let t = transaction_levels c in
    let f = few_savepoints i s in
    omega arith

pub few_takers : (seed size : ℕ) → size ≤ 100000 → takers_in (items_from 0 (drawn_from 0 size seed)) < 2900000
unfolding most_levels
few_takers seed size l = let n = all_few takers_in most_levels levels_join refl few_more 0 size seed in omega arith

-- ---- each item

pub all_places : {X : Type 0} (P : X → Type 0) (xs : List X) → AllByRecursion P xs → All P xs
all_places P [] a = All-nil P
all_places P (x ∷ xs) a = All-cons P x xs a.0 (all_places P xs a.1)

drawn_runs : (c : Command) → IsDrawn c → has_command c ≡ true
drawn_runs commands.Begin d = refl
drawn_runs commands.Save d = refl
drawn_runs commands.Write d = refl
drawn_runs commands.Release d = refl
drawn_runs commands.Undo d = refl
drawn_runs commands.Commit d = refl
drawn_runs commands.Abort d = refl
drawn_runs (commands.Snap name) d = refl
drawn_runs (commands.DropSnap name) d = refl
drawn_runs (commands.See name x) d = refl
drawn_runs c d = absurd d

pub drawn_in_range : (c : Command) → IsDrawn c → IsInRange c
drawn_in_range commands.Begin d = tt
drawn_in_range commands.Save d = tt
drawn_in_range commands.Write d = tt
drawn_in_range commands.Release d = tt
drawn_in_range commands.Undo d = tt
drawn_in_range commands.Commit d = tt
drawn_in_range commands.Abort d = tt
drawn_in_range (commands.Snap name) d = ap is_name d
drawn_in_range (commands.DropSnap name) d = ap is_name d
drawn_in_range (commands.See name x) d = (ap is_name d.0, let m = d.2 in omega arith)
drawn_in_range c d = absurd d

pub items_run : (seed size : ℕ) → size ≤ 100000 → All (MayRun (length (session_names size))) (items_from 0 (drawn_from 0 size seed))
items_run seed size few =
    let n = names_count size in
    all_places (MayRun (length (session_names size))) (items_from 0 (drawn_from 0 size seed))
    (each_item (MayRun (length (session_names size))) size few tt (λ i c l d. ((drawn_runs c d, drawn_in_range c d), let low : session_of i < min size 4 = omega arith in omega arith)) 0 size seed (omega arith))
