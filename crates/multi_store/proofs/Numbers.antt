-- Multixacts in order, and their limits.
use Rattle.tx_events.proofs.ListSteps.{le_or_over}
use Rattle.std.proofs.Common.{◌≡◌, ℕ, zero, suc, ◌+◌, ◌-◌, ◌/◌, ◌%◌, ◌^◌, ◌<◌, ◌≤◌, ◌⊎◌, refl, sym, ap, ◌∙◌, inl, inr, ⊎_elim, subst, arith, Bool, true, false, ◌==◌, cond, min, Less, Equal, Greater}
use Rattle.std.specs.Ordering.{nat_cmp, is_lt}
use Rattle.std.specs.Prelude.{nat_lt}
use Rattle.std.proofs.lemmas.Bool.Decides.{nat_tests}
use Rattle.tx_events.specs.Ids.{low_half, next_multi, IsFullMulti}
use Rattle.tx_events.specs.Limits.{up_to_multi, down_to_multi, multi_wrap_limit, multi_stop_limit, member_stop}
use Rattle.tx_events.specs.Multis.{nth_multi, first_member}

pub le_cases : (a b : ℕ) → a ≤ b → (a < b) ⊎ (a ≡ b)
le_cases a b h = grind arith

-- the next one
pub next_above : (n : ℕ) → n < next_multi n
next_above n = elim (nat_lt (low_half (n + 1)) 1) as (λ b. n < cond b (n + 2) (n + 1)) [ true ↦ omega arith | false ↦ omega arith ]

pub next_least : (n m : ℕ) → IsFullMulti m → n < m → next_multi n ≤ m
next_least n m full above =
    let step : (b : Bool) → nat_lt (low_half (n + 1)) 1 ≡ b → cond b (n + 2) (n + 1) ≤ m = elim [
      | true ↦ λ q. let r : (n + 1) % 2 ^ 32 < 1 = grind (arith, nat_tests) in let s : 1 ≤ m % 2 ^ 32 = full in omega arith
      | false ↦ λ q. omega arith
    ] in
    step (nat_lt (low_half (n + 1)) 1) refl

-- a full one is the next of the full one before it
next_one : (n : ℕ) → IsFullMulti (n + 1) → next_multi n ≡ n + 1
next_one n full =
    let step : (b : Bool) → nat_lt (low_half (n + 1)) 1 ≡ b → cond b (n + 2) (n + 1) ≡ n + 1 = elim [
      | true ↦ λ q. let r : (n + 1) % 2 ^ 32 < 1 = grind (arith, nat_tests) in let s : 1 ≤ (n + 1) % 2 ^ 32 = full in absurd (omega arith)
      | false ↦ λ q. refl
    ] in
    step (nat_lt (low_half (n + 1)) 1) refl

next_two : (n : ℕ) → low_half (n + 1) ≡ 0 → next_multi n ≡ n + 2
next_two n none =
    let step : (b : Bool) → nat_lt (low_half (n + 1)) 1 ≡ b → cond b (n + 2) (n + 1) ≡ n + 2 = elim [
      | true ↦ λ q. refl
      | false ↦ λ q. let r : 1 ≤ (n + 1) % 2 ^ 32 = grind (arith, nat_tests) in let s : (n + 1) % 2 ^ 32 ≡ 0 = none in absurd (omega arith)
    ] in
    step (nat_lt (low_half (n + 1)) 1) refl

-- the one n places past the first one
pub nth_order : (first a b : ℕ) → a ≤ b → nth_multi first a ≤ nth_multi first b
nth_order first a zero h = let e : a ≡ 0 = omega arith in rw e (omega arith)
nth_order first a (suc b) h =
    ⊎_elim
    (λ (l : a < suc b).
    let k : nth_multi first a ≤ nth_multi first b = nth_order first a b (omega arith) in
    let u : nth_multi first b < next_multi (nth_multi first b) = next_above (nth_multi first b) in
    omega arith)
    (λ (e : a ≡ suc b). rw e (omega arith))
    (le_cases a (suc b) h)

full_or_none : (n : ℕ) → (IsFullMulti n) ⊎ (low_half n ≡ 0)
full_or_none n = ⊎_elim (λ (h : 1 ≤ low_half n). inl h) (λ (h : low_half n < 1). inr (omega arith)) (le_or_over 1 (low_half n))

-- how many multixacts come from the first one on before one that is d past it
abbrev pub place : ℕ → ℕ → ℕ
place first m = m - first - (m / 2 ^ 32 - first / 2 ^ 32)

place_at : (first d : ℕ) → IsFullMulti first → IsFullMulti (first + d) → nth_multi first (place first (first + d)) ≡ first + d
place_at first zero a b =
    let e : place first (first + zero) ≡ zero = omega arith in
    let z : first ≡ first + zero = omega arith in
    ap (nth_multi first) e ∙ z
place_at first (suc zero) a b =
    let full : IsFullMulti (first + 1) = b in
    let e : place first (first + 1) ≡ suc zero = (let f : 1 ≤ first % 2 ^ 32 = a in let g : 1 ≤ (first + 1) % 2 ^ 32 = full in omega arith) in
    ap (nth_multi first) e ∙ next_one first full
place_at first (suc (suc d)) a b =
    ⊎_elim
    (λ (full : IsFullMulti (first + suc d)).
    let f : 1 ≤ (first + suc d) % 2 ^ 32 = full in
    let g : 1 ≤ (first + suc (suc d)) % 2 ^ 32 = b in
    let h : 1 ≤ first % 2 ^ 32 = a in
    let e : place first (first + suc (suc d)) ≡ suc (place first (first + suc d)) = omega arith in
    let same : first + suc (suc d) ≡ first + suc d + 1 = omega arith in
    ap (nth_multi first) e ∙ ap next_multi (place_at first (suc d) a full) ∙ next_one (first + suc d) (subst IsFullMulti same b) ∙ sym same)
    (λ (none : low_half (first + suc d) ≡ 0).
    let f : (first + suc d) % 2 ^ 32 ≡ 0 = none in
    let h : 1 ≤ first % 2 ^ 32 = a in
    let full : IsFullMulti (first + d) = (let r : 1 ≤ (first + d) % 2 ^ 32 = omega arith in r) in
    let e : place first (first + suc (suc d)) ≡ suc (place first (first + d)) = omega arith in
    let up : first + suc d ≡ first + d + 1 = omega arith in
    let two : first + d + 2 ≡ first + suc (suc d) = omega arith in
    ap (nth_multi first) e ∙ ap next_multi (place_at first d a full) ∙ next_two (first + d) (sym (ap low_half up) ∙ none) ∙ two)
    (full_or_none (first + suc d))

pub place_is : (first m : ℕ) → IsFullMulti first → IsFullMulti m → first ≤ m → nth_multi first (place first m) ≡ m
place_is first m a b from =
    let e : first + (m - first) ≡ m = omega arith in
    subst (λ z. nth_multi first (place first z) ≡ z) e (place_at first (m - first) a (subst IsFullMulti (sym e) b))

-- limits
up_above : (n : ℕ) → n ≤ up_to_multi n
up_above n = elim (nat_lt (low_half n) 1) as (λ b. n ≤ cond b (n + 1) n) [ true ↦ omega arith | false ↦ omega arith ]

down_full : (n : ℕ) → 1 ≤ n → IsFullMulti (down_to_multi n)
down_full n some =
    let step : (b : Bool) → nat_lt (low_half n) 1 ≡ b → 1 ≤ low_half (cond b (n - 1) n) = elim [
      | true ↦ λ q. let r : n % 2 ^ 32 < 1 = grind (arith, nat_tests) in omega arith
      | false ↦ λ q. let r : 1 ≤ n % 2 ^ 32 = grind (arith, nat_tests) in omega arith
    ] in
    step (nat_lt (low_half n) 1) refl

last_full : IsFullMulti (2 ^ 63 - 1)
last_full = omega arith

-- what is given below the stop limit leaves the next one at most there
pub next_to_stop : (n oldest : ℕ) → n < multi_stop_limit oldest → next_multi n ≤ multi_stop_limit oldest
next_to_stop n oldest below =
    let w : oldest + 2147483647 ≤ multi_wrap_limit oldest = up_above (oldest + 2147483647) in
    let d : ℕ = down_to_multi (multi_wrap_limit oldest - 3000000) in
    let full : IsFullMulti d = down_full (multi_wrap_limit oldest - 3000000) (omega arith) in
    let b : n < min d (2 ^ 63 - 1) = below in
    let x : next_multi n ≤ d = next_least n d full (omega arith) in
    let y : next_multi n ≤ 2 ^ 63 - 1 = next_least n (2 ^ 63 - 1) last_full (omega arith) in
    omega arith

up_rises : (a b : ℕ) → a ≤ b → up_to_multi a ≤ up_to_multi b
up_rises a b h = grind (arith, nat_tests)

down_rises : (a b : ℕ) → a ≤ b → down_to_multi a ≤ down_to_multi b
down_rises a b h = grind (arith, nat_tests)

pub stop_rises : (a b : ℕ) → a ≤ b → multi_stop_limit a ≤ multi_stop_limit b
stop_rises a b h =
    let u : multi_wrap_limit a ≤ multi_wrap_limit b = up_rises (a + 2147483647) (b + 2147483647) (omega arith) in
    let d : down_to_multi (multi_wrap_limit a - 3000000) ≤ down_to_multi (multi_wrap_limit b - 3000000) = down_rises (multi_wrap_limit a - 3000000) (multi_wrap_limit b - 3000000) (omega arith) in
    omega arith

pub member_stop_rises : (a b : ℕ) → a ≤ b → member_stop a ≤ member_stop b
member_stop_rises a b h = omega arith

pub first_from : (free : ℕ) → free ≤ first_member free
first_from free = elim (low_half free == 0) as (λ b. free ≤ cond b (free + 1) free) [ true ↦ omega arith | false ↦ omega arith ]

-- what the order of two numbers tells
cmp_lt : (a b : ℕ) → is_lt (nat_cmp a b) ≡ nat_lt a b
cmp_lt a b = one (nat_lt a b) (a == b)
  where
    one : (c d : Bool) → is_lt (cond c Less (cond d Equal Greater)) ≡ c
    one true d = refl
    one false true = refl
    one false false = refl

pub lt_from_cmp : (a b : ℕ) → is_lt (nat_cmp a b) ≡ true → a < b
lt_from_cmp a b f = let e : nat_lt a b ≡ true = sym (cmp_lt a b) ∙ f in grind (arith, nat_tests)
