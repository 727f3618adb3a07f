-- What the tables of a life have.
use Rattle.std.specs.Prelude.{◌≡◌, ℕ, ◌+◌, ◌<◌, ◌≤◌, ◌==◌, nat_lt, List, length, map, take, slice_index}
use Rattle.std.specs.Global.{Vec}
use Rattle.std.specs.List.{All, count_by}
use Rattle.place_columns.specs.Columns.{IsColumn}
use Rattle.place_columns.specs.declared.lines.LineAt.{LineAt}
use Rattle.place_columns.specs.declared.lines.OwnLine.{OwnLine}
use Rattle.place_columns.specs.Lined.{AreInOrder, bys_of, most_of, step_at}
use Rattle.place_columns.specs.Rows.{AreOwnLines}

pub record IsLineTable (lines : List LineAt) (own : List (Vec OwnLine)) : Type 0 where
  pub order : AreInOrder (bys_of lines)
  pub within : All (λ b. b.session < length own) (bys_of lines)
  pub listed : AreOwnLines (bys_of lines) own

-- how often each of these numbers stands
abbrev pub AreTotals : List ℕ → List ℕ → Type 0
AreTotals numbers totals = (n : ℕ) → n < length totals → slice_index totals n ≡ count_by (λ k. k == n) numbers

-- at each place, how many before it have its number
pub record AreRanks (numbers ranks : List ℕ) : Type 0 where
  pub size : length ranks ≡ length numbers
  pub each : (p : ℕ) → p < length numbers → slice_index ranks p ≡ count_by (λ k. k == slice_index numbers p) (take p numbers)

-- for each number below this one, how many are below it
pub record AreCounts (numbers : List ℕ) (end : ℕ) (counts : List ℕ) : Type 0 where
  pub size : length counts ≡ end
  pub each : (n : ℕ) → n < end → slice_index counts n ≡ count_by (λ k. nat_lt k n) numbers

-- in which slot a place stands, where places are in the order of their numbers
abbrev pub slot_of : List ℕ → List ℕ → List ℕ → ℕ → ℕ
slot_of numbers counts ranks p = slice_index counts (slice_index numbers p) + slice_index ranks p

-- each place stands in its slot
pub record ArePlaced (numbers counts ranks places : List ℕ) : Type 0 where
  pub size : length places ≡ length numbers
  pub each : (p : ℕ) → p < length numbers → slice_index places (slot_of numbers counts ranks p) ≡ p

pub record AreOwnEvents (steps numbers ranks counts places reach latest : List ℕ) : Type 0 where
  pub within : All (λ k. k ≤ length steps) numbers
  pub ranked : AreRanks numbers ranks
  pub counted : AreCounts numbers (length steps + 2) counts
  pub placed : ArePlaced numbers counts ranks places
  pub reached : IsColumn most_of numbers reach
  pub late : IsColumn most_of (map (step_at steps) numbers) latest
