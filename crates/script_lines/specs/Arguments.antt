-- The words behind a command or a directive: how many, and the names and numbers in them.
use Rattle.std.specs.Prelude.{ℕ, ◌-◌, ◌^◌, ◌&&◌, ◌||◌, nat_lt, nat_le, List, [], ◌∷◌, Bool, cond, Option, Some, None, Result, Ok, Err}
use Rattle.tx_events.specs.Ids.{low_half}
use Rattle.script_lines.specs.declared.kind.Kind.{Kind}
use Rattle.script_lines.specs.declared.kind.Kind.TheVariants as kinds
use Rattle.script_lines.specs.Kinds.{◌>>=◌}
use Rattle.tx_events.specs.Names.{is_name}
use Rattle.script_lines.specs.LineWords.{number_of}

-- as many words as the function's name says, and no more
abbrev pub none_of : List (List ℕ) → Result (Unit {0}) Kind
none_of [] = Ok tt
none_of ws = Err kinds.Arguments

abbrev pub one_of : List (List ℕ) → Result (List ℕ) Kind
one_of (a ∷ []) = Ok a
one_of ws = Err kinds.Arguments

abbrev pub two_of : List (List ℕ) → Result (List ℕ × List ℕ) Kind
two_of (a ∷ b ∷ []) = Ok (a, b)
two_of ws = Err kinds.Arguments

abbrev pub three_of : List (List ℕ) → Result (List ℕ × List ℕ × List ℕ) Kind
three_of (a ∷ b ∷ c ∷ []) = Ok (a, b, c)
three_of ws = Err kinds.Arguments

abbrev pub name_in : List ℕ → Result (List ℕ) Kind
name_in w = cond (is_name w) (Ok w) (Err kinds.Name)

abbrev pub some_number : Option ℕ → Result ℕ Kind
some_number None = Err kinds.Number
some_number (Some n) = Ok n

-- a NUMBER of this range, both ends counted
abbrev pub number_in : ℕ → ℕ → List ℕ → Result ℕ Kind
number_in low high w = do
  n ← some_number (number_of w)
  cond (nat_le low n && nat_le n high) (Ok n) (Err kinds.Number)

-- one that passes the test
abbrev pub such : Bool → ℕ → Result ℕ Kind
such test n = cond test (Ok n) (Err kinds.Number)

-- a number of 32 bits
abbrev pub stored_in : ℕ → List ℕ → Result ℕ Kind
stored_in low w = number_in low (2 ^ 32 - 1) w

-- a full id from 3 to 2^62
unfoldable pub id_in : List ℕ → Result ℕ Kind
id_in w = do
  n ← number_in 3 (2 ^ 62) w
  such (nat_le 3 (low_half n)) n

-- 0, 1, 2 or a full id up to 2^62
unfoldable pub asked_id_in : List ℕ → Result ℕ Kind
asked_id_in w = do
  n ← number_in 0 (2 ^ 62) w
  such (nat_lt n 3 || nat_le 3 (low_half n)) n

-- a full multixact id from 1 to 2^62
unfoldable pub multi_in : List ℕ → Result ℕ Kind
multi_in w = do
  n ← number_in 1 (2 ^ 62) w
  such (nat_le 1 (low_half n)) n
