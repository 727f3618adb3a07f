-- The full number that 32 stored bits mean, seen from a full number nearby.
use Rattle.std.specs.Prelude.{◌≡◌, ℕ, ◌+◌, ◌-◌, ◌%◌, ◌^◌, ◌<◌, ◌≤◌, nat_lt, if◌then◌else◌, Option, Some, None}
use Rattle.tx_events.specs.Ids.{low_half}

-- the number with this low half that is nearest to f, the one 2^31 below among them
pub record IsNearest (f x y : ℕ) : Type 0 where
  pub low : low_half y ≡ x
  pub not_before : f ≤ y + 2 ^ 31
  pub not_past : y < f + 2 ^ 31

-- how far that number is above f - 2^31
abbrev pub offset_near : ℕ → ℕ → ℕ
offset_near f x = (x + 2 ^ 31 + 2 ^ 32 - low_half f) % 2 ^ 32

-- the same as a number, None where it would be below 0
abbrev pub near_id : ℕ → ℕ → Option ℕ
near_id f x = if nat_lt (f + offset_near f x) (2 ^ 31) then None else Some (f + offset_near f x - 2 ^ 31)
