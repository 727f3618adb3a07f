-- A script is written transaction by transaction, and a transaction savepoint by savepoint.
use Rattle.std.proofs.Common.{◌≡◌, ℕ, ◌+◌, ◌%◌, ◌==◌, suc, List, [], ◌∷◌, ◌++◌, cond, refl, sym, ap, subst, ◌∙◌, append_assoc, OnOk, Result, Ok, Err}
use Rattle.std.specs.List.{flat_map}
use Rattle.std.proofs.lemmas.List.{append-nil, map-append}
use Rattle.tx_model.specs.declared.command.Command.TheVariants as commands
use Rattle.session_lang.specs.declared.script.Item.{Item}
use Rattle.session_lang.specs.declared.script.Item.TheVariants as items
use Rattle.script_gen.specs.Choices.{aborted_of, behind_count, behind_savepoints, behind_transaction, choices, drawn_from, savepoints, seen_of, undone_of}
use Rattle.script_gen.specs.Draws.{next_state, state_behind}
use Rattle.script_gen.specs.Generated.{end_command, is_round_first, items_from, look_commands, run_by, savepoint_commands, session_of, transaction, transaction_items}
use Rattle.script_gen.specs.Writing.{Adds}
use Rattle.script_gen.specs.declared.writer.Writer.{Writer}

-- ---- savepoints

abbrev pub savepoints_from : ℕ → ℕ → ℕ → List Item
savepoints_from session n s = run_by session (flat_map savepoint_commands (undone_of n s))

-- with n savepoints more it is what was begun with m to come
pub record LeavesSavepoints (session m n : ℕ) (begun now : Writer) : Type 0 where
  pub items : now.items ++ savepoints_from session n now.draws.state ≡ begun.items ++ savepoints_from session m begun.draws.state
  pub state : state_behind n now.draws.state ≡ state_behind m begun.draws.state

pub savepoints_begin : (session m n : ℕ) (begun : Writer) → n ≡ m → LeavesSavepoints session m n begun begun
savepoints_begin session m n begun e = subst (λ n. LeavesSavepoints session m n begun begun) (sym e) (record { items = refl; state = refl })

pub savepoints_step : (session m n k : ℕ) (begun now then : Writer) → LeavesSavepoints session m n begun now → n ≡ suc k → Adds now then (next_state now.draws.state) (run_by session (savepoint_commands (next_state now.draws.state % 3 == 0))) → LeavesSavepoints session m k begun then
savepoints_step session m n k begun now then l e a =
    let s = next_state now.draws.state in
    let one = run_by session (savepoint_commands (s % 3 == 0)) in
    let split : savepoints_from session (suc k) now.draws.state ≡ one ++ savepoints_from session k s =
    map-append (items.Run session) (savepoint_commands (s % 3 == 0)) (flat_map savepoint_commands (undone_of k s)) in
    let rest : then.items ++ savepoints_from session k then.draws.state ≡ now.items ++ savepoints_from session (suc k) now.draws.state =
    ap (λ t. then.items ++ savepoints_from session k t) a.state_is
    ∙ ap (λ t. t ++ savepoints_from session k s) a.items_are
    ∙ append_assoc now.items one (savepoints_from session k s) ∙ ap (λ t. now.items ++ t) (sym split) in
    record {
      items = rest ∙ ap (λ n. now.items ++ savepoints_from session n now.draws.state) (sym e) ∙ l.items;
      state = ap (state_behind k) a.state_is ∙ ap (λ n. state_behind n now.draws.state) (sym e) ∙ l.state;
    }

pub savepoints_end : (session m n : ℕ) (begun now : Writer) → LeavesSavepoints session m n begun now → n ≡ 0 → Adds begun now (state_behind m begun.draws.state) (savepoints_from session m begun.draws.state)
savepoints_end session m n begun now l e = record {
  state_is = ap (λ n. state_behind n now.draws.state) (sym e) ∙ l.state;
  items_are = sym (append-nil now.items) ∙ ap (λ n. now.items ++ savepoints_from session n now.draws.state) (sym e) ∙ l.items;
}

-- ---- transactions

abbrev pub transactions_from : ℕ → ℕ → ℕ → List Item
transactions_from i n s = items_from i (drawn_from i n s)

pub transactions_step : (i m n : ℕ) (now then : Writer) (all : List Item) → m ≡ suc n → Adds now then (behind_transaction i now.draws.state) (transaction_items i (choices i now.draws.state)) → now.items ++ transactions_from i m now.draws.state ≡ all → then.items ++ transactions_from (i + 1) n then.draws.state ≡ all
transactions_step i m n now then all same a e =
    let s = behind_transaction i now.draws.state in
    let one = transaction_items i (choices i now.draws.state) in
    ap (λ t. then.items ++ transactions_from (i + 1) n t) a.state_is
    ∙ ap (λ t. t ++ transactions_from (i + 1) n s) a.items_are
    ∙ append_assoc now.items one (transactions_from (i + 1) n s) ∙ ap (λ k. now.items ++ transactions_from i k now.draws.state) (sym same) ∙ e

pub transactions_end : (i n : ℕ) (now : Writer) (all : List Item) → n ≡ 0 → now.items ++ transactions_from i n now.draws.state ≡ all → now.items ≡ all
transactions_end i n now all e f = sym (append-nil now.items) ∙ ap (λ n. now.items ++ transactions_from i n now.draws.state) (sym e) ∙ f

-- ---- one transaction, part by part

flat : (b r s l e : List Item) (x y : Item) → (((((b ++ r) ++ x ∷ []) ++ y ∷ []) ++ s) ++ l) ++ e ≡ b ++ (r ++ (x ∷ y ∷ (s ++ (l ++ e))))
flat b r s l e x y = simp append_assoc

pub transaction_written : (i k count : ℕ) (begun w1 w2 w3 w4 w5 w6 w7 : Writer) → k ≡ session_of i
    → Adds begun w1 begun.draws.state (cond (is_round_first i) (items.Round ∷ []) [])
    → Adds w1 w2 w1.draws.state (run_by k (commands.Begin ∷ []))
    → Adds w2 w3 w2.draws.state (run_by k (commands.Write ∷ []))
    → count ≡ savepoints i w3.draws.state → w4.draws.state ≡ behind_count i w3.draws.state → w4.items ≡ w3.items
    → Adds w4 w5 (state_behind count w4.draws.state) (run_by k (flat_map savepoint_commands (undone_of count w4.draws.state)))
    → Adds w5 w6 (next_state w5.draws.state) (run_by k (look_commands (seen_of i w5.draws.state)))
    → Adds w6 w7 (next_state w6.draws.state) (run_by k (end_command (aborted_of w6.draws.state) ∷ []))
    → Adds begun w7 (behind_transaction i begun.draws.state) (transaction_items i (choices i begun.draws.state))
transaction_written i k count begun w1 w2 w3 w4 w5 w6 w7 own p1 p2 p3 n d4 same p5 p6 p7 =
    let s = begun.draws.state in
    let c = choices i s in
    let a2 : w2.draws.state ≡ s = p2.state_is ∙ p1.state_is in
    let a3 : w3.draws.state ≡ s = p3.state_is ∙ a2 in
    let a4 : w4.draws.state ≡ behind_count i s = d4 ∙ ap (behind_count i) a3 in
    let m : count ≡ savepoints i s = n ∙ ap (savepoints i) a3 in
    let a5 : w5.draws.state ≡ behind_savepoints i s =
    p5.state_is ∙ ap (λ n. state_behind n w4.draws.state) m ∙ ap (state_behind (savepoints i s)) a4 in
    let a6 : w6.draws.state ≡ next_state (behind_savepoints i s) = p6.state_is ∙ ap next_state a5 in
    let a7 : w7.draws.state ≡ behind_transaction i s = p7.state_is ∙ ap next_state a6 in
    let first = cond (is_round_first i) (items.Round ∷ []) [] in
    let saved = run_by k (flat_map savepoint_commands c.undone) in
    let looked = run_by k (look_commands c.seen) in
    let ended = run_by k (end_command c.aborted ∷ []) in
    let i5 : w5.items ≡ w4.items ++ saved =
    p5.items_are ∙ ap (λ n. w4.items ++ run_by k (flat_map savepoint_commands (undone_of n w4.draws.state))) m
    ∙ ap (λ t. w4.items ++ run_by k (flat_map savepoint_commands (undone_of (savepoints i s) t))) a4 in
    let i6 : w6.items ≡ w5.items ++ looked = p6.items_are ∙ ap (λ t. w5.items ++ run_by k (look_commands (seen_of i t))) a5 in
    let i7 : w7.items ≡ w6.items ++ ended = p7.items_are ∙ ap (λ t. w6.items ++ run_by k (end_command (aborted_of t) ∷ [])) a6 in
    let joined : run_by k (transaction c) ≡ items.Run k commands.Begin ∷ items.Run k commands.Write ∷ (saved ++ (looked ++ ended)) =
    ap (λ t. items.Run k commands.Begin ∷ items.Run k commands.Write ∷ t) (map-append (items.Run k) (flat_map savepoint_commands c.undone) (look_commands c.seen ++ end_command c.aborted ∷ [])) in
    record {
      state_is = a7;
      items_are =
          i7 ∙ ap (λ t. t ++ ended) (i6 ∙ ap (λ t. t ++ looked) (i5 ∙ ap (λ t. t ++ saved) (same ∙ p3.items_are
          ∙ ap (λ t. t ++ items.Run k commands.Write ∷ []) (p2.items_are ∙ ap (λ t. t ++ items.Run k commands.Begin ∷ []) p1.items_are))))
          ∙ flat begun.items first saved looked ended (items.Run k commands.Begin) (items.Run k commands.Write)
          ∙ ap (λ t. begun.items ++ (first ++ t)) (sym joined)
          ∙ ap (λ k. begun.items ++ (first ++ run_by k (transaction c))) own;
    }

-- what follows from what a call ensures where it went well
pub on_ok_then : {E P Q : Type 0} (r : Result (Unit {0}) E) → (P → Q) → OnOk r P → OnOk r Q
on_ok_then (Ok x) f p = f p
on_ok_then (Err e) f p = tt
