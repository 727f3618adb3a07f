-- What is drawn of a transaction: how many savepoints it opens and which of them it rolls back, the id that it looks at,
-- and how it ends.
use Rattle.std.specs.Prelude.{ℕ, zero, suc, ◌+◌, ◌%◌, ◌==◌, Bool, List, [], ◌∷◌, cond}
use Rattle.script_gen.specs.Draws.{next_state, state_behind}

-- for each savepoint whether it is rolled back; the stored id that the snapshot is asked for; whether it aborts
pub record Choices : Type 0 where
  pub undone : List Bool
  pub seen : ℕ
  pub aborted : Bool

-- each sixteenth transaction opens 120 savepoints, and no draw is made for that
abbrev pub is_deep : ℕ → Bool
is_deep i = i % 16 == 15

-- ---- transaction i, from state s on

abbrev pub savepoints : ℕ → ℕ → ℕ
savepoints i s = cond (is_deep i) 120 (next_state s % 4)

abbrev pub behind_count : ℕ → ℕ → ℕ
behind_count i s = cond (is_deep i) s (next_state s)

-- of n savepoints in turn: one is rolled back where a draw below 3 is 0
abbrev pub undone_of : ℕ → ℕ → List Bool
undone_of zero s = []
undone_of (suc n) s = (next_state s % 3 == 0) ∷ undone_of n (next_state s)

abbrev pub behind_savepoints : ℕ → ℕ → ℕ
behind_savepoints i s = state_behind (savepoints i s) (behind_count i s)

-- the ids from 3 on, as many as there are transactions up to this one
abbrev pub seen_of : ℕ → ℕ → ℕ
seen_of i s = 3 + next_state s % (i + 1)

-- one of five aborts
abbrev pub aborted_of : ℕ → Bool
aborted_of s = next_state s % 5 == 0

abbrev pub choices : ℕ → ℕ → Choices
choices i s = record {
  undone = undone_of (savepoints i s) (behind_count i s);
  seen = seen_of i (behind_savepoints i s);
  aborted = aborted_of (next_state (behind_savepoints i s));
}

abbrev pub behind_transaction : ℕ → ℕ → ℕ
behind_transaction i s = next_state (next_state (behind_savepoints i s))

-- ---- n transactions, from transaction i on

abbrev pub drawn_from : ℕ → ℕ → ℕ → List Choices
drawn_from i zero s = []
drawn_from i (suc n) s = choices i s ∷ drawn_from (i + 1) n (behind_transaction i s)
