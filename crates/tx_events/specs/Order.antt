-- The circular order of stored halves.
use Rattle.std.specs.Prelude.{◌≡◌, ℕ, ◌+◌, ◌-◌, ◌%◌, ◌^◌, ◌<◌, ◌↔◌, Bool, IsTrue, nat_lt, nat_le, ◌||◌, if◌then◌else◌}
use Rattle.tx_events.specs.Ids.{low_half, IsFullId}

-- the signed difference of a and b is negative
abbrev pub ring_before : ℕ → ℕ → Bool
ring_before a b = nat_le (2 ^ 31) ((a + (2 ^ 32 - b)) % 2 ^ 32)

-- special ids compare as numbers, the others around the ring
abbrev pub xid_before : ℕ → ℕ → Bool
xid_before a b = if nat_lt a 3 || nat_lt b 3 then nat_lt a b else ring_before a b

-- two full numbers less than 2^31 apart, which have these low halves
pub record AreNear (a b m n : ℕ) : Type 0 where
  pub low_first : low_half m ≡ a
  pub low_second : low_half n ≡ b
  pub first : m < n + 2 ^ 31
  pub second : n < m + 2 ^ 31

-- the answer for low halves is the order of the full numbers, wherever they are near
abbrev pub OrdersNear : ℕ → ℕ → Bool → Type 0
OrdersNear a b answer = (m n : ℕ) → AreNear a b m n → IsTrue answer ↔ (m < n)

-- the same of full ids: no special id is among them
abbrev pub OrdersNearIds : ℕ → ℕ → Bool → Type 0
OrdersNearIds a b answer = (m n : ℕ) → IsFullId m → IsFullId n → AreNear a b m n → IsTrue answer ↔ (m < n)
