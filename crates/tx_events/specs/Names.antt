-- Names of sessions and snapshots.
use Rattle.std.specs.Prelude.{◌≡◌, ℕ, ◌&&◌, ◌||◌, nat_lt, nat_le, List, [], ◌∷◌, Bool, true, false, length}
use Rattle.std.specs.List.{list_all}

abbrev pub is_letter : ℕ → Bool
is_letter b = nat_le 97 b && nat_le b 122

abbrev pub is_name_byte : ℕ → Bool
is_name_byte b = is_letter b || (nat_le 48 b && nat_le b 57)

-- 1 to 16 of the letters a to z and the digits, a letter first
abbrev pub is_name : List ℕ → Bool
is_name [] = false
is_name (b ∷ bytes) = is_letter b && list_all is_name_byte bytes && nat_lt (length bytes) 16

abbrev pub IsName : List ℕ → Type 0
IsName name = is_name name ≡ true
