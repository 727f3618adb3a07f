-- The bytes of a line, its words, names and numbers.
use Rattle.std.specs.Prelude.{ℕ, ◌+◌, ◌*◌, ◌%◌, ◌^◌, ◌&&◌, ◌||◌, nat_lt, nat_le, List, [], ◌∷◌, ◌==◌, Bool, true, false, cond, Option, Some, None, length}
use Rattle.std.specs.List.{filter, slice_split, list_all}

-- spaces and tabs divide words
abbrev pub is_blank : ℕ → Bool
is_blank b = (b == 32) || (b == 9)

abbrev pub is_word : List ℕ → Bool
is_word [] = false
is_word (b ∷ bytes) = true

-- what stands between blanks, where anything does
abbrev pub words_in : List ℕ → List (List ℕ)
words_in line = filter is_word (slice_split is_blank line)

abbrev pub next : ℕ → ℕ → Option ℕ
next n digit = cond (nat_lt digit 10 && nat_lt (10 * n + digit) (2 ^ 64)) (Some (10 * n + digit)) None

abbrev pub and_then : Option ℕ → (ℕ → Option ℕ) → Option ℕ
and_then None f = None
and_then (Some n) f = f n

abbrev pub number_from : ℕ → List ℕ → Option ℕ
number_from n [] = Some n
number_from n (b ∷ bytes) = and_then (next n ((b + 208) % 256)) (λ m. number_from m bytes)

-- a NUMBER below 2^64: 1 to 20 digits
abbrev pub number_of : List ℕ → Option ℕ
number_of w = cond (nat_lt 0 (length w) && nat_le (length w) 20) (number_from 0 w) None

-- what a line may have: 20 to 7e hex, and tabs
abbrev pub is_line_byte : ℕ → Bool
is_line_byte b = (nat_le 32 b && nat_le b 126) || (b == 9)

abbrev pub is_plain : List ℕ → Bool
is_plain line = list_all is_line_byte line
