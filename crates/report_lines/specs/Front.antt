-- The first lines of a text.
use Rattle.std.specs.Prelude.{◌≡◌, ℕ, ◌==◌, zero, suc, List, [], ◌∷◌, ◌++◌, cond, false, drop, length, ◌<◌, ◌≤◌}
use Rattle.std.specs.List.{AllByRecursion}

-- up to the first LF and with it, or all
abbrev pub first_line : List ℕ → List ℕ
first_line [] = []
first_line (b ∷ bytes) = cond (b == 10) (b ∷ []) (b ∷ first_line bytes)

abbrev pub behind_line : List ℕ → List ℕ
behind_line [] = []
behind_line (b ∷ bytes) = cond (b == 10) bytes (behind_line bytes)

-- the first n lines, or all
abbrev pub front : ℕ → List ℕ → List ℕ
front zero bytes = []
front (suc n) bytes = first_line bytes ++ front n (behind_line bytes)

-- one line, with its end
pub record IsLine (t : List ℕ) : Type 0 where
  pub body : List ℕ
  pub text : t ≡ body ++ 10 ∷ []
  pub plain : AllByRecursion (λ b. (b == 10) ≡ false) body

-- a line is cut off, with the byte before it; the rest begins with the line's end
pub record IsCut (rest line after : List ℕ) : Type 0 where
  pub first : first_line (drop 1 rest) ≡ drop 1 line
  pub is : IsLine (drop 1 line)
  pub text : drop 1 rest ≡ drop 1 line ++ drop 1 after
  pub line_some : 1 ≤ length line
  pub rest_some : 1 ≤ length after
  pub shorter : length after < length rest
