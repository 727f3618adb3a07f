-- Offsets as numbers.
use Rattle.std.specs.Prelude.{ℕ, ◌==◌, if◌then◌else◌, Option, Some, None}

-- 0 is no offset
abbrev pub offset_of : ℕ → Option ℕ
offset_of number = if number == 0 then None else Some number
