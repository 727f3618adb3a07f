-- How far ids go.
use Rattle.std.proofs.Common.{◌≡◌, ℕ, ◌-◌, ◌<◌, ◌≤◌, List, [], ◌∷◌, length, refl, arith, Bool, true, false, not, max, ◌+◌, nat_lt, if◌then◌else◌, ◌^◌}
use Rattle.std.specs.List.{AllByRecursion, fold}
use Rattle.tx_events.proofs.Extremes.{fold_max_start}
use Rattle.tx_events.proofs.Soundness.{legal_sound}
use Rattle.tx_events.proofs.ListSteps.{all_filter}
use Rattle.tx_events.proofs.NameBounds.{given_below}
use Rattle.tx_events.proofs.IdOrder.{nth_from}
use Rattle.tx_events.specs.Base.{IsBase}
use Rattle.tx_events.specs.Events.{given}
use Rattle.tx_events.specs.History.{next_given, IsLegal}
use Rattle.tx_events.specs.Limits.{stop_limit}
use Rattle.tx_events.specs.Running.{is_open, closed}
use Rattle.tx_events.specs.Snapshots.{latest}
use Rattle.tx_events.specs.declared.event.Event.{Event}
use Rattle.tx_events.specs.declared.record.Counters.{Counters}
use Rattle.tx_events.specs.Ids.{id_before, next_id, low_half, IsFullId}

pub next_id_to : (n : ℕ) → n + 1 < 2 ^ 63 → next_id n < 2 ^ 63
next_id_to n l = one (nat_lt (low_half (n + 1)) 3) refl
  where
    one : (b : Bool) → nat_lt (low_half (n + 1)) 3 ≡ b → (if b then n + 1 + (3 - low_half (n + 1)) else n + 1) < 2 ^ 63
    one true e = omega arith
    one false e = l

pub stop_to : (oldest : ℕ) → stop_limit oldest + 1 ≤ 2 ^ 63
stop_to oldest = omega arith

pub first_to_next : (first : ℕ) (h : List Event) → first ≤ next_given first h
first_to_next first h = nth_from first (length (given h))

pub full_from : (n : ℕ) → IsFullId n → 3 ≤ n
full_from n f = grind arith

before_bounds : (n : ℕ) → IsFullId n → (2 ≤ id_before n) × (id_before n < n)
before_bounds n f = grind arith

fold_max_below : (z n : ℕ) (xs : List ℕ) → z < n → AllByRecursion (λ x. x < n) xs → fold max z xs < n
fold_max_below z n [] l a = l
fold_max_below z n (x ∷ xs) l a = let k : x < n = a.0 in fold_max_below (max z x) n xs (omega arith) a.1

-- the latest closed id is below the next one
pub latest_bounds : (base : Counters) (h : List Event) → IsBase base → IsLegal base h → (2 ≤ latest base.next h) × (latest base.next h < next_given base.next h)
latest_bounds base h b l =
    let p = before_bounds base.next b.full in
    let up : id_before base.next ≤ latest base.next h = fold_max_start (id_before base.next) (closed h) in
    let from : base.next ≤ next_given base.next h = first_to_next base.next h in
    let two : 2 ≤ id_before base.next = p.0 in
    let low : id_before base.next < base.next = p.1 in
    (omega arith, fold_max_below (id_before base.next) (next_given base.next h) (closed h) (omega arith) (all_filter (λ x. x < next_given base.next h) (λ x. not (is_open h x)) (given h) (given_below (next_given base.next h) h (legal_sound base h l).below)))
