-- The order of ids.
use Rattle.std.proofs.Common.{◌≡◌, ℕ, zero, suc, ◌+◌, ◌-◌, ◌*◌, ◌%◌, ◌^◌, ◌<◌, ◌≤◌, Bool, true, false, cond, refl, arith}
use Rattle.std.proofs.lemmas.Bool.Decides.{nat_tests}
use Rattle.std.specs.Prelude.{nat_lt}
use Rattle.tx_events.specs.Ids.{next_id, id_before, low_half, IsFullId}
use Rattle.tx_events.specs.History.{nth_id}

pub next_above : (n : ℕ) → n < next_id n
next_above n = elim (nat_lt (low_half (n + 1)) 3) as (λ b. n < cond b (n + 1 + (3 - low_half (n + 1))) (n + 1)) [ true ↦ omega arith | false ↦ omega arith ]

pub next_least : (n m : ℕ) → IsFullId m → n < m → next_id n ≤ m
next_least n m full above =
    let step : (b : Bool) → nat_lt (low_half (n + 1)) 3 ≡ b → cond b (n + 1 + (3 - low_half (n + 1))) (n + 1) ≤ m = elim [
      | true ↦ λ q. let r : (n + 1) % 2 ^ 32 < 3 = grind (arith, nat_tests) in let s : 3 ≤ m % 2 ^ 32 = full in omega arith
      | false ↦ λ q. omega arith
    ] in
    step (nat_lt (low_half (n + 1)) 3) refl

pub next_upto : (n : ℕ) → next_id n ≤ n + 4
next_upto n = elim (nat_lt (low_half (n + 1)) 3) as (λ b. cond b (n + 1 + (3 - low_half (n + 1))) (n + 1) ≤ n + 4) [ true ↦ omega arith | false ↦ omega arith ]

pub before_below : (n : ℕ) → 0 < n → id_before n < n
before_below n h =
    elim (nat_lt (n - 1) 3) as (λ b. cond b (n - 1) (cond (nat_lt (low_half (n - 1)) 3) (n - 1 - low_half (n - 1) - 1) (n - 1)) < n) [
      | true ↦ omega arith
      | false ↦ elim (nat_lt (low_half (n - 1)) 3) as (λ b. cond b (n - 1 - low_half (n - 1) - 1) (n - 1) < n) [ true ↦ omega arith | false ↦ omega arith ]
    ]

pub next_full : (n : ℕ) → IsFullId (next_id n)
next_full n =
    let step : (b : Bool) → nat_lt (low_half (n + 1)) 3 ≡ b → 3 ≤ low_half (cond b (n + 1 + (3 - low_half (n + 1))) (n + 1)) = elim [
      | true ↦ λ q. let l : (n + 1) % 2 ^ 32 < 3 = grind (arith, nat_tests) in omega arith
      | false ↦ λ q. let l : 3 ≤ (n + 1) % 2 ^ 32 = grind (arith, nat_tests) in omega arith
    ] in
    step (nat_lt (low_half (n + 1)) 3) refl

pub next_monotone : (m n : ℕ) → m ≤ n → next_id m ≤ next_id n
next_monotone m n h = next_least m (next_id n) (next_full n) (let a = next_above n in omega arith)

pub nth_full : (first n : ℕ) → IsFullId first → IsFullId (nth_id first n)
nth_full first zero full = full
nth_full first (suc n) full = next_full (nth_id first n)

low_next : (n : ℕ) → 3 ≤ n % 2 ^ 32 → (n - 1) % 2 ^ 32 < 3 → n ≤ next_id (n - 1 - low_half (n - 1) - 1)
low_next n f l =
    let m : ℕ = n - 1 - low_half (n - 1) - 1 in
    let step : (b : Bool) → nat_lt (low_half (m + 1)) 3 ≡ b → n ≤ cond b (m + 1 + (3 - low_half (m + 1))) (m + 1) = elim [
      | true ↦ λ q. omega arith
      | false ↦ λ q. let z : 3 ≤ (m + 1) % 2 ^ 32 = grind (arith, nat_tests) in absurd (omega arith)
    ] in
    step (nat_lt (low_half (m + 1)) 3) refl

-- the id before the first one and its next
pub next_of_before : (n : ℕ) → IsFullId n → n ≤ next_id (id_before n)
next_of_before n full =
    let f : 3 ≤ n % 2 ^ 32 = full in
    let step : (b : Bool) → nat_lt (n - 1) 3 ≡ b → (c : Bool) → nat_lt (low_half (n - 1)) 3 ≡ c → n ≤ next_id (cond b (n - 1) (cond c (n - 1 - low_half (n - 1) - 1) (n - 1))) = elim [
      | true ↦ λ q c r. let z = next_above (n - 1) in omega arith
      | false ↦ λ q. elim [
        | true ↦ λ r. let l : (n - 1) % 2 ^ 32 < 3 = grind (arith, nat_tests) in low_next n f l
        | false ↦ λ r. let z = next_above (n - 1) in omega arith
      ]
    ] in
    step (nat_lt (n - 1) 3) refl (nat_lt (low_half (n - 1)) 3) refl

pub nth_from : (first n : ℕ) → first ≤ nth_id first n
nth_from first zero = omega arith
nth_from first (suc n) = let a = nth_from first n in let b = next_above (nth_id first n) in omega arith

-- so many ids don't go far
pub nth_upto : (first n : ℕ) → nth_id first n ≤ first + 4 * n
nth_upto first zero = omega arith
nth_upto first (suc n) = let a = nth_upto first n in let b = next_upto (nth_id first n) in omega arith
