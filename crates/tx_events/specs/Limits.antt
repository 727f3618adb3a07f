-- How far numbers may go from the oldest one that is still asked for (SetTransactionIdLimit, SetMultiXactIdLimit).
use Rattle.std.specs.Prelude.{ℕ, ◌+◌, ◌-◌, ◌%◌, ◌^◌, ◌≤◌, nat_lt, min, cond}
use Rattle.tx_events.specs.Ids.{low_half}

-- the first number from n on whose low half isn't special
abbrev pub up_to_normal : ℕ → ℕ
up_to_normal n = cond (nat_lt (low_half n) 3) (n + (3 - low_half n)) n

-- the last number up to n whose low half isn't special
abbrev pub down_to_normal : ℕ → ℕ
down_to_normal n = cond (nat_lt (low_half n) 3) (n - low_half n - 1) n

-- from here on an id would count as older than the oldest one
abbrev pub wrap_limit : ℕ → ℕ
wrap_limit oldest = up_to_normal (oldest + 2147483647)

-- no id at or past it is given
abbrev pub stop_limit : ℕ → ℕ
stop_limit oldest = min (down_to_normal (wrap_limit oldest - 3000000)) (2 ^ 63 - 1)

-- an id at or past it is given with a warning
abbrev pub warn_limit : ℕ → ℕ
warn_limit oldest = down_to_normal (wrap_limit oldest - 40000000)

-- the same for multixacts, whose only special low half is 0
abbrev pub up_to_multi : ℕ → ℕ
up_to_multi n = cond (nat_lt (low_half n) 1) (n + 1) n

abbrev pub down_to_multi : ℕ → ℕ
down_to_multi n = cond (nat_lt (low_half n) 1) (n - 1) n

abbrev pub multi_wrap_limit : ℕ → ℕ
multi_wrap_limit oldest = up_to_multi (oldest + 2147483647)

abbrev pub multi_stop_limit : ℕ → ℕ
multi_stop_limit oldest = min (down_to_multi (multi_wrap_limit oldest - 3000000)) (2 ^ 63 - 1)

abbrev pub multi_warn_limit : ℕ → ℕ
multi_warn_limit oldest = down_to_multi (multi_wrap_limit oldest - 40000000)

-- a quarter of all member offsets past the segment before the one of the oldest offset; no member is given an offset
-- at or past it. A segment is 32 pages of 1636 members
abbrev pub member_stop : ℕ → ℕ
member_stop oldest = min (oldest + 2 ^ 30 - 52352 - low_half oldest % 52352) (2 ^ 63 - 1)

-- no limit under a is past the one under b
pub record LimitsRise (a b : ℕ) : Type 0 where
  pub wrap : wrap_limit a ≤ wrap_limit b
  pub stop : stop_limit a ≤ stop_limit b
  pub warn : warn_limit a ≤ warn_limit b
  pub multi_wrap : multi_wrap_limit a ≤ multi_wrap_limit b
  pub multi_stop : multi_stop_limit a ≤ multi_stop_limit b
  pub multi_warn : multi_warn_limit a ≤ multi_warn_limit b
  pub members : member_stop a ≤ member_stop b
