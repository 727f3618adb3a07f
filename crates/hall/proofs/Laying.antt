-- The words of a new table.
use Rattle.std.proofs.Common.{◌≡◌, ℕ, ◌+◌, ◌<◌, List, length, get_or}
use Rattle.hall.specs.Layout.{line_of}

-- the first w published words have their numbers, and the locks' words are 0
pub record Laid (cells w : ℕ) (posts words : List ℕ) : Type 0 where
  pub long : length words ≡ line_of (cells + length posts)
  pub unlocked : (c : ℕ) → c < cells → get_or words (line_of c) 0 ≡ 0
  pub posted : (k : ℕ) → k < w → get_or words (line_of (cells + k)) 0 ≡ get_or posts k 0
