-- Rows of pages that stay, by how far they lie from another page. n is how many numbers a page holds.
use Rattle.std.specs.Prelude.{◌⊎◌, ℕ, ◌+◌, ◌*◌, ◌^◌, ◌<◌, ◌≤◌}

-- page l isn't before page c: on the ring it lies less than half of it past c, and the numbers of neither go round it
pub record IsPast (n l c : ℕ) : Type 0 where
  pub page_fits : l * n + 4 < 2 ^ 32
  pub other_fits : c * n + 4 < 2 ^ 32
  pub near : ((c * n ≤ l * n) × (l * n < c * n + 2 ^ 31)) ⊎ (l * n + 2 ^ 31 < c * n)
