-- Full ids and their neighbours. A contract sees an id as its number.
use Rattle.std.specs.Prelude.{ℕ, ◌+◌, ◌-◌, ◌%◌, ◌^◌, ◌<◌, ◌≤◌, ◌⊎◌, nat_lt, if◌then◌else◌}

-- the 32 bits that are stored and compared
abbrev pub low_half : ℕ → ℕ
low_half n = n % 2 ^ 32

-- a transaction's id in full: its low half isn't one of the three special ids
abbrev pub IsFullId : ℕ → Type 0
IsFullId n = 3 ≤ low_half n

-- a special id, or a full id
abbrev pub IsXidNumber : ℕ → Type 0
IsXidNumber n = (n < 3) ⊎ IsFullId n

-- a multixact's id in full: its low half isn't 0
abbrev pub IsFullMulti : ℕ → Type 0
IsFullMulti n = 1 ≤ low_half n

-- the least full id above n
pub record IsNextId (n next : ℕ) : Type 0 where
  pub full : IsFullId next
  pub above : n < next
  pub least : (m : ℕ) → IsFullId m → n < m → next ≤ m

-- the greatest full id below n, or where there is none, the special id below it
pub record IsIdBefore (n before : ℕ) : Type 0 where
  pub number : IsXidNumber before
  pub below : before < n
  pub greatest : (m : ℕ) → IsXidNumber m → m < n → m ≤ before

-- the least full multixact id above n
pub record IsNextMulti (n next : ℕ) : Type 0 where
  pub full : IsFullMulti next
  pub above : n < next
  pub least : (m : ℕ) → IsFullMulti m → n < m → next ≤ m

-- the three as numbers
abbrev pub next_id : ℕ → ℕ
next_id n = if nat_lt (low_half (n + 1)) 3 then n + 1 + (3 - low_half (n + 1)) else n + 1

abbrev pub id_before : ℕ → ℕ
id_before n = if nat_lt (n - 1) 3 then n - 1 else if nat_lt (low_half (n - 1)) 3 then n - 1 - low_half (n - 1) - 1 else n - 1

abbrev pub next_multi : ℕ → ℕ
next_multi n = if nat_lt (low_half (n + 1)) 1 then n + 2 else n + 1
