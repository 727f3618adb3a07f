-- Words, and lines of them.
use Rattle.std.specs.Prelude.{ℕ, List, [], ◌∷◌, ◌++◌, slice_get, unwrap_or, map, Bool, cond, codes}
use Rattle.std.specs.List.{flat_map}
use Rattle.std.specs.Fmt.{decimal}

abbrev pub colon : ℕ
colon = 58

-- words behind the first one, each after a space
unfoldable pub more : List (List ℕ) → List ℕ
more words = flat_map (λ w. 32 ∷ w) words

-- a line: its words with one space between them, and the line's end
unfoldable pub line_text : List (List ℕ) → List ℕ
line_text [] = 10 ∷ []
line_text (w ∷ words) = w ++ more words ++ 10 ∷ []

-- the numbers as words
abbrev pub numbers : List ℕ → List (List ℕ)
numbers ns = map decimal ns

-- the numbers, or a dash for none
abbrev pub numbers_or_dash : List ℕ → List (List ℕ)
numbers_or_dash [] = codes "-" ∷ []
numbers_or_dash (n ∷ ns) = numbers (n ∷ ns)

abbrev pub yes_or_no : Bool → List ℕ
yes_or_no b = cond b (codes "yes") (codes "no")

-- the name of a session
abbrev pub name_at : List (List ℕ) → ℕ → List ℕ
name_at names session = unwrap_or (slice_get names session) []
