-- The members that words are, one word after the other, each word's mode and number at once.
use Rattle.std.proofs.Common.{◌≡◌, ℕ, List, [], ◌∷◌, ◌++◌, Result, Ok, Err, refl}
use Rattle.tx_events.specs.declared.multi.Mode.{Mode}
use Rattle.tx_model.specs.declared.command.Pair.{Pair}
use Rattle.script_lines.specs.declared.kind.Kind.{Kind}
use Rattle.script_lines.specs.Arguments.{stored_in}
use Rattle.script_lines.specs.Kinds.{◌>>=◌}
use Rattle.script_lines.specs.Members.{id_part, mode_part, mode_in, modes_in, pair_in, pairs_from, pairs_in, fault_behind}

-- members behind those so far, all modes tested before any number
abbrev pub pairs_of : List Pair → List (List ℕ) → Result (List Pair) Kind
pairs_of so_far ws = modes_in ws >>= λ _. pairs_from so_far ws

pub all_pairs : (ws : List (List ℕ)) → pairs_of [] ws ≡ pairs_in ws
unfolding pairs_in
all_pairs ws = refl

pub no_more_pairs : (so_far : List Pair) → pairs_of so_far [] ≡ Ok so_far
no_more_pairs so_far = refl

pub bad_mode : (so_far : List Pair) (w : List ℕ) (ws : List (List ℕ)) (k : Kind) → mode_in (mode_part w) ≡ Err k → pairs_of so_far (w ∷ ws) ≡ Err k
bad_mode so_far w ws k e = rw e refl

next_with : (so_far : List Pair) (w : List ℕ) (ws : List (List ℕ)) (n : ℕ) (m : Mode) (tested : Result (Unit {0}) Kind) → mode_in (mode_part w) ≡ Ok m → stored_in 0 (id_part w) ≡ Ok n → (tested >>= λ _. pairs_from so_far (w ∷ ws)) ≡ (tested >>= λ _. pairs_from (so_far ++ record { x = record { number = n }; mode = m } ∷ []) ws)
unfolding pair_in
next_with so_far w ws n m (Ok u) e f = rw (e, f) refl
next_with so_far w ws n m (Err k) e f = refl

pub next_pair : (so_far : List Pair) (w : List ℕ) (ws : List (List ℕ)) (n : ℕ) (m : Mode) → mode_in (mode_part w) ≡ Ok m → stored_in 0 (id_part w) ≡ Ok n → pairs_of so_far (w ∷ ws) ≡ pairs_of (so_far ++ record { x = record { number = n }; mode = m } ∷ []) ws
next_pair so_far w ws n m e f = rw e (next_with so_far w ws n m (modes_in ws) e f)

bad_with : (so_far : List Pair) (w : List ℕ) (ws : List (List ℕ)) (k : Kind) (tested : Result (Unit {0}) Kind) → stored_in 0 (id_part w) ≡ Err k → (tested >>= λ _. pairs_from so_far (w ∷ ws)) ≡ Err (fault_behind k tested)
unfolding pair_in
bad_with so_far w ws k (Ok u) f = rw f refl
bad_with so_far w ws k (Err other) f = refl

pub bad_number : (so_far : List Pair) (w : List ℕ) (ws : List (List ℕ)) (m : Mode) (k : Kind) → mode_in (mode_part w) ≡ Ok m → stored_in 0 (id_part w) ≡ Err k → pairs_of so_far (w ∷ ws) ≡ Err (fault_behind k (modes_in ws))
bad_number so_far w ws m k e f = rw e (bad_with so_far w ws k (modes_in ws) f)
