-- The lines of a text. Each ends with LF, but for the last, which may lack it; a CR before LF is no part of its line.
use Rattle.std.specs.Prelude.{◌≡◌, ℕ, ◌-◌, ◌<◌, ◌≤◌, ◌&&◌, ◌==◌, nat_le, List, [], ◌∷◌, Bool, true, cond, length, take, get_or}
use Rattle.std.specs.Int.{w64, trailing_zeros}
use Rattle.std.specs.List.{slice_split}

-- printable ASCII
abbrev pub is_printable : ℕ → Bool
is_printable b = nat_le 32 b && nat_le b 126

-- each byte is, from one place up to another
abbrev pub ArePrintable : List ℕ → ℕ → ℕ → Type 0
ArePrintable bytes from to = (k : ℕ) → from ≤ k → k < to → is_printable (get_or bytes k 0) ≡ true

-- the place of the lowest bit that is set, or n
abbrev pub first_set : ℕ → ℕ → ℕ
first_set mask n = cond (mask == 0) n (trailing_zeros w64 mask)

abbrev pub is_line_end : ℕ → Bool
is_line_end b = b == 10

abbrev pub without_cr : List ℕ → List ℕ
without_cr raw = cond (get_or raw (length raw - 1) 0 == 13) (take (length raw - 1) raw) raw

-- behind the last LF stands a last line, which may be empty
abbrev pub ended : List (List ℕ) → List (List ℕ)
ended [] = []
ended (last ∷ []) = last ∷ []
ended (raw ∷ next ∷ more) = without_cr raw ∷ ended (next ∷ more)

abbrev pub lines_of : List ℕ → List (List ℕ)
lines_of bytes = ended (slice_split is_line_end bytes)
