-- Where the words of a table lie. Line 0 is spare, and line q + 1 belongs to the place q: its first word is 1 while a pass is inside the lock and else 0, or the number of a published word. The others are never used.
use Rattle.std.specs.Prelude.{◌≡◌, ℕ, ◌+◌, ◌*◌, ◌<◌, List, length, slice_index}
use Rattle.hall.specs.declared.layout.TheConstants.{LINE}

-- the word of a place, the first of its line
abbrev pub line_of : ℕ → ℕ
line_of q = LINE * (q + 1)

-- each lock is free, and the published words have these numbers
pub record Starts (cells : ℕ) (posts words : List ℕ) : Type 0 where
  pub long : length words ≡ line_of (cells + length posts)
  pub unlocked : (c : ℕ) → c < cells → slice_index words (line_of c) ≡ 0
  pub posted : (w : ℕ) → w < length posts → slice_index words (line_of (cells + w)) ≡ slice_index posts w
