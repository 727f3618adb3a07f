-- How much is read.
use Rattle.std.specs.Prelude.{ℕ, ◌≤◌, List, Option, length}
use Rattle.std.specs.Io.KnownBytes.{Consumes}

-- the length of the longest text that is read, in bytes
abbrev pub most_bytes : ℕ
most_bytes = 16777216

-- how much is read of a source: one byte past that shows that a text is too long
abbrev pub most_read : ℕ
most_read = 16777217

-- at most so many bytes were read
pub record ReadsUpTo (most : ℕ) (left left' : Option (List ℕ)) : Type 0 where
  pub bytes : List ℕ
  pub read : Consumes left left' bytes
  pub few : length bytes ≤ most
