-- The multixact that a stored half means, and how far the next one is from the oldest.
use Rattle.std.proofs.Common.{◌≡◌, ℕ, ◌+◌, ◌-◌, ◌^◌, ◌%◌, ◌<◌, ◌≤◌, Bool, true, false, cond, nat_lt, Option, Some, None, IfSome, IfNone, refl, ap, arith}
use Rattle.tx_events.specs.Ids.{low_half}
use Rattle.tx_events.specs.Limits.{down_to_multi, multi_stop_limit, multi_wrap_limit, up_to_multi}
use Rattle.tx_events.specs.Nearest.{IsNearest}

same_number : (f y z : ℕ) → IsNearest f (low_half y) z → f ≤ y + 2 ^ 31 → y < f → z ≡ y
same_number f y z n low below =
    let same : z % 2 ^ 32 ≡ y % 2 ^ 32 = n.low in
    let a = n.not_before in
    let b = n.not_past in
    omega arith

pub near_by : (f y : ℕ) (r : Option ℕ) → IfSome r (λ z. IsNearest f (low_half y) z) → IfNone r ((z : ℕ) → IsNearest f (low_half y) z → ⊥) → f ≤ y + 2 ^ 31 → y < f → r ≡ Some y
near_by f y None found none low below = absurd (none y (record { low = refl; not_before = low; not_past = omega arith }))
near_by f y (Some z) found none low below = ap Some (same_number f y z found low below)

down_under : (n : ℕ) → down_to_multi n ≤ n
down_under n = one (nat_lt (low_half n) 1)
  where
    one : (b : Bool) → cond b (n - 1) n ≤ n
    one true = omega arith
    one false = omega arith

up_under : (n : ℕ) → up_to_multi n ≤ n + 1
up_under n = one (nat_lt (low_half n) 1)
  where
    one : (b : Bool) → cond b (n + 1) n ≤ n + 1
    one true = omega arith
    one false = omega arith

pub stop_under : (oldest : ℕ) → multi_stop_limit oldest ≤ oldest + 2 ^ 31
stop_under oldest =
    let up = up_under (oldest + 2147483647) in
    let down = down_under (multi_wrap_limit oldest - 3000000) in
    omega arith
