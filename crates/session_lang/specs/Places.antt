-- On which lines the items of a script stand.
use Rattle.std.specs.Prelude.{ℕ, ◌+◌, ◌&&◌, ◌==◌, not, List, [], ◌∷◌, Bool, false, cond, get_or}
use Rattle.script_lines.specs.Header.{is_header_word}
use Rattle.script_lines.specs.LineWords.{words_in}

-- not of the header, and neither empty nor a comment
abbrev pub is_item_line : List (List ℕ) → Bool
is_item_line [] = false
is_item_line (w ∷ ws) = not (get_or w 0 0 == 35) && not (is_header_word w)

-- the numbers of these lines, from n on
abbrev pub item_lines : ℕ → List (List ℕ) → List ℕ
item_lines n [] = []
item_lines n (line ∷ lines) = cond (is_item_line (words_in line)) (n ∷ item_lines (n + 1) lines) (item_lines (n + 1) lines)
