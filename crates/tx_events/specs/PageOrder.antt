-- The order of pages. A page is seen by one of the numbers that stand on it, and truncation removes whole segments.
use Rattle.std.specs.Prelude.{◌≡◌, ℕ, ◌+◌, ◌-◌, ◌*◌, ◌/◌, ◌%◌, ◌^◌, ◌<◌, ◌≤◌, Bool, false, ◌&&◌}
use Rattle.tx_events.specs.Ids.{low_half}
use Rattle.tx_events.specs.Order.{ring_before, xid_before}

-- what a store's numbers are
pub data Shape : Type 0 where
  Ids : Shape
  Multis : Shape
  Offsets : Shape

-- the order of the numbers
abbrev pub is_before : Shape → ℕ → ℕ → Bool
is_before Ids a b = xid_before a b
is_before Multis a b = ring_before a b
is_before Offsets a b = ring_before a b

-- which of a page's numbers stands for it
abbrev pub place_of : Shape → ℕ
place_of Ids = 4
place_of Multis = 2
place_of Offsets = 0

-- that number of page p, with n numbers a page
abbrev pub page_number : Shape → ℕ → ℕ → ℕ
page_number shape n p = (p * n + place_of shape) % 2 ^ 32

-- page p comes before page q: its number is before the number of q, and before the number n - 1 past that one
abbrev pub page_precedes : Shape → ℕ → ℕ → ℕ → Bool
page_precedes shape n p q =
    is_before shape (page_number shape n p) (page_number shape n q)
    && is_before shape (page_number shape n p) ((page_number shape n q + (n - 1)) % 2 ^ 32)

-- the first and the last page of its segment of 32 pages precede the cutoff
abbrev pub is_cut : Shape → ℕ → ℕ → ℕ → Bool
is_cut shape n cutoff p =
    page_precedes shape n (p / 32 * 32) cutoff && page_precedes shape n (p / 32 * 32 + 31) cutoff

-- the page of each number from the cutoff's number on, less than 2^31 - 2^15 past it, isn't cut
abbrev pub IsKeptFrom : Shape → ℕ → Type 0
IsKeptFrom shape n = (oldest x : ℕ) → oldest ≤ x → x + 2 ^ 15 < oldest + 2 ^ 31 → is_cut shape n (low_half oldest / n) (low_half x / n) ≡ false
