-- Faults and their counts.
use Rattle.std.specs.Prelude.{ℕ, ◌+◌, ◌-◌, ◌^◌, ◌≤◌, min, OnErr, Result, is_err, cond}

-- one more, up to the greatest 64-bit number
abbrev pub counted : ℕ → ℕ
counted n = min (n + 1) (2 ^ 64 - 1)

-- the count has risen, or stands at its greatest value
abbrev pub Rose : ℕ → ℕ → Type 0
Rose before now = counted before ≤ now

-- the count doesn't fall, and an error comes only where it rose
pub record HasCause {T E : Type 0} (before now : ℕ) (result : Result T E) : Type 0 where
  pub later : before ≤ now
  pub failed : OnErr result (Rose before now)

-- the count after an answer: one more exactly after an error
abbrev pub counted_by : {T E : Type 0} → Result T E → ℕ → ℕ
counted_by result before = cond (is_err result) (counted before) before
