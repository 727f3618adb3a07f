-- How many savepoints and items there are.
use Rattle.std.proofs.Common.{◌≡◌, ℕ, ◌+◌, ◌*◌, ◌/◌, ◌%◌, ◌≤◌, zero, suc, List, [], ◌∷◌, ◌++◌, length, refl, ap, arith, Bool, true, false, cond, eqb-true, length-append}
use Rattle.std.specs.List.{flat_map}
use Rattle.std.proofs.lemmas.List.{length-map}
use Rattle.script_gen.specs.Draws.{next_state}
use Rattle.script_gen.specs.Choices.{Choices, behind_count, behind_transaction, choices, drawn_from, is_deep, savepoints, undone_of}
use Rattle.script_gen.specs.Generated.{end_command, look_commands, is_round_first, items_from, run_by, savepoint_commands, transaction, transaction_items}
use Rattle.session_lang.specs.declared.script.Item.{Item}
use Rattle.session_lang.specs.declared.script.Item.TheVariants as items

-- ---- savepoints

pub undone_count : (n s : ℕ) → length (undone_of n s) ≡ n
undone_count zero s = refl
undone_count (suc n) s = ap suc (undone_count n (next_state s))

-- 3 for each transaction, and 117 more for each sixteenth
abbrev pub most_savepoints : ℕ → ℕ
most_savepoints i = 3 * i + 117 * (i / 16)

by_depth : (i s : ℕ) (b : Bool) → is_deep i ≡ b → savepoints i s + most_savepoints i ≤ most_savepoints (i + 1)
by_depth i s true e = let deep : i % 16 ≡ 15 = eqb-true (i % 16) 15 e in rw e (omega arith)
by_depth i s false e = rw e (omega arith)

pub few_savepoints : (i s : ℕ) → length (choices i s).undone + most_savepoints i ≤ most_savepoints (i + 1)
few_savepoints i s =
    let n = undone_count (savepoints i s) (behind_count i s) in
    let m = by_depth i s (is_deep i) refl in
    omega arith

-- ---- a transaction's items

pub savepoints_size : (undone : List Bool) → length (flat_map savepoint_commands undone) ≡ 3 * length undone
savepoints_size [] = refl
savepoints_size (b ∷ undone) = let i = savepoints_size undone in omega arith

pub transaction_size : (c : Choices) → length (transaction c) ≡ 6 + 3 * length c.undone
transaction_size c =
    let n = savepoints_size c.undone in
    let m = length-append (flat_map savepoint_commands c.undone) (look_commands c.seen ++ end_command c.aborted ∷ []) in
    omega arith

round_end_size : (b : Bool) → length (cond b (items.Round ∷ []) []) ≤ 1
round_end_size true = omega arith
round_end_size false = omega arith

pub items_size : (i : ℕ) (c : Choices) → length (transaction_items i c) ≤ 7 + 3 * length c.undone
items_size i c =
    let n = transaction_size c in
    let e : length (run_by (i % 4) (transaction c)) ≡ length (transaction c) = simp length-map in
    let m = length-append (cond (is_round_first i) (items.Round ∷ []) []) (run_by (i % 4) (transaction c)) in
    let k = round_end_size (is_round_first i) in
    omega arith

-- ---- all items

-- what each transaction adds little to is small in all
pub all_few : (measure : List Item → ℕ) (most : ℕ → ℕ) → ((xs ys : List Item) → measure (xs ++ ys) ≡ measure xs + measure ys) → measure [] ≡ 0 → ((i s : ℕ) → measure (transaction_items i (choices i s)) + most i ≤ most (i + 1)) → (i n s : ℕ) → measure (items_from i (drawn_from i n s)) + most i ≤ most (i + n)
all_few measure most joins none each i zero s = let e : most (i + zero) ≡ most i = ap most (omega arith) in omega arith
all_few measure most joins none each i (suc n) s =
    let rest = items_from (i + 1) (drawn_from (i + 1) n (behind_transaction i s)) in
    let j = joins (transaction_items i (choices i s)) rest in
    let h = all_few measure most joins none each (i + 1) n (behind_transaction i s) in
    let e : most (i + suc n) ≡ most (i + 1 + n) = ap most (omega arith) in
    let k = each i s in
    omega arith

most_items : ℕ → ℕ
most_items i = 7 * i + 3 * most_savepoints i

few_more_items : (i s : ℕ) → length (transaction_items i (choices i s)) + most_items i ≤ most_items (i + 1)
unfolding most_items
few_more_items i s = let n = items_size i (choices i s) in let m = few_savepoints i s in omega arith

pub few_items : (seed size : ℕ) → size ≤ 100000 → length (items_from 0 (drawn_from 0 size seed)) ≤ 4000000
unfolding most_items
few_items seed size l = let n = all_few length most_items length-append refl few_more_items 0 size seed in omega arith
