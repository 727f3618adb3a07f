-- A life of fewer than 2,900,000 ids and multixacts has room.
use Rattle.std.proofs.Common.{◌≡◌, ℕ, zero, suc, ◌+◌, ◌-◌, ◌%◌, ◌^◌, ◌<◌, ◌≤◌, ◌⊎◌, inl, inr, ⊎_elim, length, arith, List}
use Rattle.tx_events.specs.Ids.{IsFullId, low_half, next_id, next_multi}
use Rattle.tx_events.specs.declared.event.Event.{Event}
use Rattle.tx_events.specs.declared.record.Counters.{Counters}
use Rattle.tx_events.specs.Base.{IsBase}
use Rattle.tx_events.specs.Events.{given}
use Rattle.tx_events.specs.History.{next_given, nth_id}
use Rattle.tx_events.specs.Limits.{multi_stop_limit, stop_limit}
use Rattle.tx_events.specs.declared.multi.MultiEvent.{MultiEvent}
use Rattle.tx_events.specs.Multis.{made, next_made, nth_multi}

-- at most once in 2^31 ids the special ones are passed over
record Passed (first n : ℕ) : Type 0 where
  is : ((nth_id first n ≡ first + n) × (low_half first + n < 2 ^ 32)) ⊎ ((nth_id first n ≡ first + n + 3) × (2 ^ 32 ≤ low_half first + n))

next_plain : (m : ℕ) → low_half m + 1 < 2 ^ 32 → 2 ≤ low_half m → next_id m ≡ m + 1
next_plain m a b = grind arith

next_round : (m : ℕ) → low_half m + 1 ≡ 2 ^ 32 → next_id m ≡ m + 4
next_round m a = grind arith

passed : (first n : ℕ) → IsFullId first → n < 2 ^ 31 → Passed first n
passed first zero full few = record { is = inl (omega arith, omega arith) }
passed first (suc n) full few =
    let f : 3 ≤ first % 2 ^ 32 = full in
    let before = passed first n full (omega arith) in
    ⊎_elim
    (λ (h : (nth_id first n ≡ first + n) × (low_half first + n < 2 ^ 32)).
    let at : nth_id first n ≡ first + n = h.0 in let low : low_half first + n < 2 ^ 32 = h.1 in
    ⊎_elim
    (λ (in_lap : low_half first + n + 1 < 2 ^ 32). let e = next_plain (nth_id first n) (omega arith) (omega arith) in record { is = inl (omega arith, omega arith) })
    (λ (end : 2 ^ 32 ≤ low_half first + n + 1). let e = next_round (nth_id first n) (omega arith) in record { is = inr (omega arith, omega arith) })
    (way (low_half first + n + 1) (2 ^ 32)))
    (λ (h : (nth_id first n ≡ first + n + 3) × (2 ^ 32 ≤ low_half first + n)).
    let at : nth_id first n ≡ first + n + 3 = h.0 in let low : 2 ^ 32 ≤ low_half first + n = h.1 in
    let e = next_plain (nth_id first n) (omega arith) (omega arith) in record { is = inr (omega arith, omega arith) })
    before.is
  where
    way : (m n : ℕ) → (m < n) ⊎ (n ≤ m)
    way m n = grind arith

stop_below : (oldest : ℕ) → stop_limit oldest ≤ oldest + 2 ^ 31 - 2999000
stop_below oldest = grind arith

pub has_room : (base : Counters) (h : List Event) → IsBase base → length (given h) < 2900000 → (next_given base.next h + 2 ^ 15 < base.oldest + 2 ^ 31) × (next_given base.next h ≤ base.next + 2 ^ 30)
has_room base h is few =
    let n : ℕ = length (given h) in
    let p = passed base.next (length (given h)) is.full (omega arith) in
    let s : base.next ≤ stop_limit base.oldest = is.next in
    let b = stop_below base.oldest in
    ⊎_elim
    (λ (a : (nth_id base.next (length (given h)) ≡ base.next + length (given h)) × (low_half base.next + length (given h) < 2 ^ 32)). let e = a.0 in (omega arith, omega arith))
    (λ (a : (nth_id base.next (length (given h)) ≡ base.next + length (given h) + 3) × (2 ^ 32 ≤ low_half base.next + length (given h))). let e = a.0 in (omega arith, omega arith))
    p.is

-- at most once in 2^31 multixacts the number without a low half is passed over
record MultisPassed (first n : ℕ) : Type 0 where
  is : ((nth_multi first n ≡ first + n) × (low_half first + n < 2 ^ 32)) ⊎ ((nth_multi first n ≡ first + n + 1) × (2 ^ 32 ≤ low_half first + n))

multi_plain : (m : ℕ) → low_half m + 1 < 2 ^ 32 → next_multi m ≡ m + 1
multi_plain m a = grind arith

multi_round : (m : ℕ) → low_half m + 1 ≡ 2 ^ 32 → next_multi m ≡ m + 2
multi_round m a = grind arith

multis_passed : (first n : ℕ) → n < 2 ^ 31 → MultisPassed first n
multis_passed first zero few = record { is = inl (omega arith, omega arith) }
multis_passed first (suc n) few =
    let before = multis_passed first n (omega arith) in
    ⊎_elim
    (λ (h : (nth_multi first n ≡ first + n) × (low_half first + n < 2 ^ 32)).
    let at : nth_multi first n ≡ first + n = h.0 in let low : low_half first + n < 2 ^ 32 = h.1 in
    ⊎_elim
    (λ (in_lap : low_half first + n + 1 < 2 ^ 32). let e = multi_plain (nth_multi first n) (omega arith) in record { is = inl (omega arith, omega arith) })
    (λ (end : 2 ^ 32 ≤ low_half first + n + 1). let e = multi_round (nth_multi first n) (omega arith) in record { is = inr (omega arith, omega arith) })
    (way (low_half first + n + 1) (2 ^ 32)))
    (λ (h : (nth_multi first n ≡ first + n + 1) × (2 ^ 32 ≤ low_half first + n)).
    let at : nth_multi first n ≡ first + n + 1 = h.0 in let low : 2 ^ 32 ≤ low_half first + n = h.1 in
    let e = multi_plain (nth_multi first n) (omega arith) in record { is = inr (omega arith, omega arith) })
    before.is
  where
    way : (m n : ℕ) → (m < n) ⊎ (n ≤ m)
    way m n = grind arith

multi_stop_below : (oldest : ℕ) → multi_stop_limit oldest ≤ oldest + 2 ^ 31 - 2999000
multi_stop_below oldest = grind arith

pub multis_have_room : (base : Counters) (h : List MultiEvent) → IsBase base → length (made h) < 2900000 → (next_made base.multi h + 2 ^ 15 + 2 < base.oldest_multi + 2 ^ 31) × (next_made base.multi h ≤ base.multi + 2 ^ 30)
multis_have_room base h is few =
    let p = multis_passed base.multi (length (made h)) (omega arith) in
    let s : base.multi ≤ multi_stop_limit base.oldest_multi = is.multi in
    let b = multi_stop_below base.oldest_multi in
    ⊎_elim
    (λ (a : (nth_multi base.multi (length (made h)) ≡ base.multi + length (made h)) × (low_half base.multi + length (made h) < 2 ^ 32)). let e = a.0 in (omega arith, omega arith))
    (λ (a : (nth_multi base.multi (length (made h)) ≡ base.multi + length (made h) + 1) × (2 ^ 32 ≤ low_half base.multi + length (made h))). let e = a.0 in (omega arith, omega arith))
    p.is
