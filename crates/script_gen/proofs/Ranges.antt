-- Which commands there are, and of which sessions.
use Rattle.std.proofs.Common.{◌≡◌, ℕ, ◌+◌, ◌<◌, ◌≤◌, zero, suc, List, [], ◌∷◌, ◌++◌, refl, arith, Bool, true, false, cond}
use Rattle.std.specs.List.{AllByRecursion, flat_map}
use Rattle.script_gen.specs.Choices.{Choices, behind_transaction, choices, drawn_from}
use Rattle.script_gen.specs.Generated.{end_command, is_round_first, items_from, look_commands, run_by, savepoint_commands, session_of, snapshot, transaction, transaction_items}
use Rattle.tx_model.specs.declared.command.Command.{Command}
use Rattle.tx_model.specs.declared.command.Command.TheVariants as commands
use Rattle.session_lang.specs.declared.script.Item.{Item}
use Rattle.session_lang.specs.declared.script.Item.TheVariants as items

-- a command of a generated script
abbrev pub IsDrawn : Command → Type 0
IsDrawn commands.Begin = Unit {0}
IsDrawn commands.Save = Unit {0}
IsDrawn commands.Write = Unit {0}
IsDrawn commands.Release = Unit {0}
IsDrawn commands.Undo = Unit {0}
IsDrawn commands.Commit = Unit {0}
IsDrawn commands.Abort = Unit {0}
IsDrawn (commands.Snap name) = name ≡ snapshot
IsDrawn (commands.DropSnap name) = name ≡ snapshot
IsDrawn (commands.See name x) = (name ≡ snapshot) × (3 ≤ x.number) × (x.number ≤ 100002)
IsDrawn command = ⊥

pub all_append : {X : Type 0} (P : X → Type 0) (xs ys : List X) → AllByRecursion P xs → AllByRecursion P ys → AllByRecursion P (xs ++ ys)
all_append P [] ys a b = b
all_append P (x ∷ xs) ys a b = (a.0, all_append P xs ys a.1 b)

savepoint_drawn : (undone : Bool) → AllByRecursion IsDrawn (savepoint_commands undone)
savepoint_drawn true = (tt, (tt, (tt, tt)))
savepoint_drawn false = (tt, (tt, (tt, tt)))

savepoints_drawn : (undone : List Bool) → AllByRecursion IsDrawn (flat_map savepoint_commands undone)
savepoints_drawn [] = tt
savepoints_drawn (b ∷ undone) = all_append IsDrawn (savepoint_commands b) (flat_map savepoint_commands undone) (savepoint_drawn b) (savepoints_drawn undone)

end_drawn : (aborted : Bool) → IsDrawn (end_command aborted)
end_drawn true = tt
end_drawn false = tt

transaction_drawn : (c : Choices) → 3 ≤ c.seen → c.seen ≤ 100002 → AllByRecursion IsDrawn (transaction c)
transaction_drawn c l m = (
  tt,
  (
    tt,
    all_append IsDrawn (flat_map savepoint_commands c.undone) (look_commands c.seen ++ end_command c.aborted ∷ []) (savepoints_drawn c.undone)
        (refl, ((refl, l, m), (refl, (end_drawn c.aborted, tt)))),
  ),
)

run_each : (P : Item → Type 0) (session : ℕ) (all : List Command) → ((c : Command) → IsDrawn c → P (items.Run session c)) → AllByRecursion IsDrawn all → AllByRecursion P (run_by session all)
run_each P session [] f d = tt
run_each P session (c ∷ all) f d = (f c d.0, run_each P session all f d.1)

round_end_each : (P : Item → Type 0) (b : Bool) → P items.Round → AllByRecursion P (cond b (items.Round ∷ []) [])
round_end_each P true r = (r, tt)
round_end_each P false r = tt

small_seen : (i s : ℕ) → i < 100000 → (choices i s).seen ≤ 100002
small_seen i s l = omega arith

-- what holds of each item of the sessions that have a transaction
pub each_item : (P : Item → Type 0) (size : ℕ) → size ≤ 100000 → P items.Round → ((i : ℕ) (c : Command) → i < size → IsDrawn c → P (items.Run (session_of i) c)) → (i n s : ℕ) → i + n ≤ size → AllByRecursion P (items_from i (drawn_from i n s))
each_item P size few r f i zero s l = tt
each_item P size few r f i (suc n) s l =
    all_append P (transaction_items i (choices i s)) (items_from (i + 1) (drawn_from (i + 1) n (behind_transaction i s)))
    (all_append P (cond (is_round_first i) (items.Round ∷ []) []) (run_by (session_of i) (transaction (choices i s)))
    (round_end_each P (is_round_first i) r)
    (run_each P (session_of i) (transaction (choices i s)) (λ c d. f i c (omega arith) d) (transaction_drawn (choices i s) (omega arith) (small_seen i s (omega arith)))))
    (each_item P size few r f (i + 1) n (behind_transaction i s) (omega arith))
