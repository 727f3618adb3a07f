-- The words of a line.
use Rattle.std.specs.Prelude.{ℕ, List, [], ◌∷◌, ◌==◌, ◌≡◌, Bool, true, nat_lt}
use Rattle.std.specs.List.{slice_split, AllByRecursion}

abbrev pub is_space : ℕ → Bool
is_space b = b == 32

-- the words behind a place of a line, which is at the line's end or at the byte before a word
abbrev pub behind : List ℕ → List (List ℕ)
behind [] = []
behind (b ∷ bytes) = slice_split is_space bytes

-- neither a space nor a control character, as the line's end is one
abbrev pub is_shown : ℕ → Bool
is_shown b = nat_lt 32 b

abbrev pub IsWord : List ℕ → Type 0
IsWord w = AllByRecursion (λ b. is_shown b ≡ true) w

abbrev pub AreWords : List (List ℕ) → Type 0
AreWords ws = AllByRecursion IsWord ws
