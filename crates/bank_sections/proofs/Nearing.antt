-- In a life of few ids its pages are near each other, and none of its ids counts as before the oldest one.
use Rattle.std.proofs.Common.{◌≡◌, ℕ, zero, suc, ◌+◌, ◌-◌, ◌*◌, ◌/◌, ◌%◌, ◌^◌, ◌≤◌, ◌<◌, List, None, Bool, true, false, cond, length, refl, arith}
use Rattle.std.proofs.lemmas.Bool.Decides.{nat_tests}
use Rattle.std.specs.Prelude.{nat_lt}
use Rattle.notes.specs.Lists.{at}
use Rattle.tx_events.specs.Ids.{IsFullId, low_half, next_id}
use Rattle.tx_events.specs.Limits.{stop_limit}
use Rattle.tx_events.specs.Base.{IsBase}
use Rattle.tx_events.specs.Events.{given}
use Rattle.tx_events.specs.History.{next_given, nth_id}
use Rattle.tx_events.proofs.IdOrder.{nth_full, nth_upto}
use Rattle.tx_core.specs.declared.entry.Entry.{Entry}
use Rattle.tx_core.specs.declared.entry.Start.{Start}
use Rattle.tx_core.specs.EngineInvariant.{EngineInvariant}
use Rattle.tx_core.specs.Entries.{history, AreFewIds}
use Rattle.tx_core.specs.Locks.{subtrans_lock, xact_lock}
use Rattle.tx_core.proofs.Nearness.{made_near}
use Rattle.engine_parts.specs.Stand.{AreSubtransPagesNear, AreXactPagesNear}

-- The next id is less than half a ring, by two pages of pg_xact, past the oldest one with which the life began. So none of
-- the life counts as before it.
abbrev pub AreIdsNear : Start → List (List Entry) → Type 0
AreIdsNear start lists = next_given start.base.next (history lists) + 2 ^ 16 < start.base.oldest + 2 ^ 31

-- the next id is the next number, or three more where the low half begins anew
next_round : (n : ℕ) → IsFullId n → next_id n + 3 * (n / 2 ^ 32) ≤ n + 1 + 3 * (next_id n / 2 ^ 32)
next_round n full =
    let low : 3 ≤ n % 2 ^ 32 = full in
    let step : (b : Bool) → nat_lt (low_half (n + 1)) 3 ≡ b → cond b (n + 1 + (3 - low_half (n + 1))) (n + 1) + 3 * (n / 2 ^ 32) ≤ n + 1 + 3 * (cond b (n + 1 + (3 - low_half (n + 1))) (n + 1) / 2 ^ 32) = elim [
      | true ↦ λ q. let r : (n + 1) % 2 ^ 32 < 3 = grind (arith, nat_tests) in omega arith
      | false ↦ λ q. omega arith
    ] in
    step (nat_lt (low_half (n + 1)) 3) refl

nth_round : (first n : ℕ) → IsFullId first → nth_id first n + 3 * (first / 2 ^ 32) ≤ first + n + 3 * (nth_id first n / 2 ^ 32)
nth_round first zero full = omega arith
nth_round first (suc n) full = let a = nth_round first n full in let b = next_round (nth_id first n) (nth_full first n full) in omega arith

-- so few ids skip the special ones once at most
pub nth_near : (first n : ℕ) → IsFullId first → n < 2900000 → nth_id first n ≤ first + n + 3
nth_near first n full few = let a = nth_round first n full in let b = nth_upto first n in omega arith

pub stop_tight : (oldest : ℕ) → stop_limit oldest + 2999990 ≤ oldest + 2 ^ 31
stop_tight oldest = grind arith

pub ids_near : (start : Start) (lists : List (List Entry)) → IsBase start.base → AreFewIds lists → AreIdsNear start lists
ids_near start lists b few =
    let to = nth_near start.base.next (length (given (history lists))) b.full few in
    let stop = stop_tight start.base.oldest in
    let next = b.next in
    let number : length (given (history lists)) < 2900000 = few in
    omega arith

pub xact_near : (start : Start) (lists : List (List Entry)) (bank : ℕ) → EngineInvariant start lists → AreFewIds lists → AreXactPagesNear start (at lists (xact_lock bank))
xact_near start lists bank k few =
    let last = ((made_near start lists bank k).xact few).last (λ x. None) in
    let to = last.to in
    let on = last.on in
    omega arith

pub subtrans_near : (start : Start) (lists : List (List Entry)) (bank : ℕ) → EngineInvariant start lists → AreFewIds lists → AreSubtransPagesNear start (at lists (subtrans_lock bank))
subtrans_near start lists bank k few =
    let last = ((made_near start lists bank k).subtrans few).last (λ x. None) in
    let to = last.to in
    let on = last.on in
    omega arith
