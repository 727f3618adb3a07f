-- The sessions are numbered in the order in which they first appear.
use Rattle.std.proofs.Common.{◌≡◌, ℕ, ◌+◌, ◌<◌, ◌≤◌, min, zero, suc, List, [], ◌∷◌, ◌++◌, length, map, refl, sym, ap, arith, Bool, true, false, cond, ◌∙◌, append_assoc, inl, inr}
use Rattle.std.specs.List.{flat_map, range_with_len}
use Rattle.std.proofs.lemmas.List.{append-nil, length-map, length-take}
use Rattle.std.proofs.lemmas.List.Elements.{filter_map-append}
use Rattle.script_gen.specs.Choices.{Choices, behind_transaction, choices, drawn_from}
use Rattle.script_gen.specs.Generated.{end_command, is_round_first, items_from, look_commands, run_by, savepoint_commands, session_names, session_of, transaction, transaction_items}
use Rattle.tx_model.specs.declared.command.Command.{Command}
use Rattle.tx_model.specs.declared.command.Command.TheVariants as commands
use Rattle.tx_events.proofs.ListSteps.{le_or_over, range_push}
use Rattle.tx_events.specs.Places.{first_seen}
use Rattle.session_lang.specs.declared.script.Item.TheVariants as items
use Rattle.session_lang.specs.Rounds.{session_of as session_at, sessions_in}
use Rattle.session_lang.proofs.SeenLemmas.{has_appeared, not_yet, push_next, push_old}

pub names_count : (size : ℕ) → length (session_names size) ≡ min size 4
names_count size = simp (length-map, length-take)

-- the commands behind the first one
abbrev rest_of : Choices → List Command
rest_of c = commands.Write ∷ (flat_map savepoint_commands c.undone ++ (look_commands c.seen ++ end_command c.aborted ∷ []))

-- the same number again and again
abbrev again : ℕ → List Command → List ℕ
again k all = map (λ _. k) all

old_again : (k n : ℕ) (xs : List ℕ) (all : List Command) → first_seen xs ≡ range_with_len 0 n → k < n → first_seen (xs ++ again k all) ≡ range_with_len 0 n
old_again k n xs [] e l = rw append-nil e
old_again k n xs (c ∷ all) e l =
    let f : first_seen (xs ++ k ∷ []) ≡ range_with_len 0 n = push_old k xs (has_appeared k n xs e l) ∙ e in
    ap first_seen (sym (append_assoc xs (k ∷ []) (again k all))) ∙ old_again k n (xs ++ k ∷ []) all f l

pushed : (k : ℕ) → range_with_len 0 k ++ k ∷ [] ≡ range_with_len 0 (suc k)
pushed k = let same : k ≡ 0 + k = omega arith in ap (λ x. range_with_len 0 k ++ x ∷ []) same ∙ sym (range_push 0 k)

next_again : (k : ℕ) (xs : List ℕ) (c : Command) (all : List Command) → first_seen xs ≡ range_with_len 0 k → first_seen (xs ++ again k (c ∷ all)) ≡ range_with_len 0 (suc k)
next_again k xs c all e =
    let f : first_seen (xs ++ k ∷ []) ≡ range_with_len 0 (suc k) = push_next k xs (not_yet k k xs e (omega arith)) ∙ ap (λ t. t ++ k ∷ []) e ∙ pushed k in
    ap first_seen (sym (append_assoc xs (k ∷ []) (again k all))) ∙ old_again k (suc k) (xs ++ k ∷ []) all f (omega arith)

run_sessions : (k : ℕ) (all : List Command) → sessions_in (run_by k all) ≡ again k all
run_sessions k [] = refl
run_sessions k (c ∷ all) = ap (λ t. k ∷ t) (run_sessions k all)

round_end_sessions : (b : Bool) → sessions_in (cond b (items.Round ∷ []) []) ≡ []
round_end_sessions true = refl
round_end_sessions false = refl

transaction_sessions : (i : ℕ) (c : Choices) → sessions_in (transaction_items i c) ≡ again (session_of i) (transaction c)
transaction_sessions i c =
    filter_map-append session_at (cond (is_round_first i) (items.Round ∷ []) []) (run_by (session_of i) (transaction c))
    ∙ ap (λ t. t ++ sessions_in (run_by (session_of i) (transaction c))) (round_end_sessions (is_round_first i)) ∙ run_sessions (session_of i) (transaction c)

-- one transaction more
next_session : (i : ℕ) (xs : List ℕ) (c : Choices) → first_seen xs ≡ range_with_len 0 (min i 4) → i < 4 → first_seen (xs ++ again (session_of i) (transaction c)) ≡ range_with_len 0 (min (i + 1) 4)
next_session i xs c e l =
    let same : session_of i ≡ i = omega arith in
    let most : min i 4 ≡ i = omega arith in
    let old : first_seen xs ≡ range_with_len 0 i = e ∙ ap (range_with_len 0) most in
    let new : suc i ≡ min (i + 1) 4 = omega arith in
    ap (λ k. first_seen (xs ++ again k (transaction c))) same
    ∙ next_again i xs commands.Begin (rest_of c) old ∙ ap (range_with_len 0) new

known_session : (i : ℕ) (xs : List ℕ) (c : Choices) → first_seen xs ≡ range_with_len 0 (min i 4) → 4 ≤ i → first_seen (xs ++ again (session_of i) (transaction c)) ≡ range_with_len 0 (min (i + 1) 4)
known_session i xs c e l =
    let most : min i 4 ≡ 4 = omega arith in
    let old : first_seen xs ≡ range_with_len 0 4 = e ∙ ap (range_with_len 0) most in
    let new : 4 ≡ min (i + 1) 4 = omega arith in
    let below : session_of i < 4 = omega arith in
    old_again (session_of i) 4 xs (transaction c) old below ∙ ap (range_with_len 0) new

one_more : (i : ℕ) (xs : List ℕ) (c : Choices) → first_seen xs ≡ range_with_len 0 (min i 4) → first_seen (xs ++ again (session_of i) (transaction c)) ≡ range_with_len 0 (min (i + 1) 4)
one_more i xs c e = elim (le_or_over 4 i) [ inl l ↦ known_session i xs c e l | inr l ↦ next_session i xs c e l ]

-- all transactions from i on, behind these sessions
pub all_numbered : (i n s : ℕ) (xs : List ℕ) → first_seen xs ≡ range_with_len 0 (min i 4) → first_seen (xs ++ sessions_in (items_from i (drawn_from i n s))) ≡ range_with_len 0 (min (i + n) 4)
all_numbered i zero s xs e = let same : min i 4 ≡ min (i + zero) 4 = omega arith in rw append-nil (e ∙ ap (range_with_len 0) same)
all_numbered i (suc n) s xs e =
    let c = choices i s in
    let rest = items_from (i + 1) (drawn_from (i + 1) n (behind_transaction i s)) in
    let block = again (session_of i) (transaction c) in
    let split : sessions_in (transaction_items i c ++ rest) ≡ block ++ sessions_in rest =
    filter_map-append session_at (transaction_items i c) rest ∙ ap (λ t. t ++ sessions_in rest) (transaction_sessions i c) in
    let same : min (i + 1 + n) 4 ≡ min (i + suc n) 4 = omega arith in
    ap (λ t. first_seen (xs ++ t)) split ∙ ap first_seen (sym (append_assoc xs block (sessions_in rest)))
    ∙ all_numbered (i + 1) n (behind_transaction i s) (xs ++ block) (one_more i xs c e) ∙ ap (range_with_len 0) same

pub sessions_numbered : (seed size : ℕ) → first_seen (sessions_in (items_from 0 (drawn_from 0 size seed))) ≡ range_with_len 0 (length (session_names size))
sessions_numbered seed size =
    let count = names_count size in
    let same : min (0 + size) 4 ≡ length (session_names size) = omega arith in
    all_numbered 0 size seed [] refl ∙ ap (range_with_len 0) same
