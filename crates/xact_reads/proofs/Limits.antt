-- The limits of a registered snapshot are ids below 2^63.
use Rattle.std.proofs.Common.{◌≡◌, ℕ, ◌^◌, ◌≤◌, ◌<◌, List, [], ◌∷◌, ◌++◌, length, take, refl, sym, subst, arith}
use Rattle.tx_events.specs.declared.event.Event.{Event}
use Rattle.tx_events.specs.declared.event.Event.TheVariants as events
use Rattle.tx_events.specs.declared.record.Counters.{Counters}
use Rattle.tx_events.specs.Base.{IsBase}
use Rattle.tx_events.specs.Events.{given}
use Rattle.tx_events.specs.History.{IsLegal, IsNextGiven, MayCome, next_given, nth_id}
use Rattle.tx_events.specs.Horizon.{oldest_id, oldest_xmin}
use Rattle.tx_events.specs.Snapshots.{latest, snapshot_xmax}
use Rattle.tx_events.proofs.GivenGrowth.{given_none, next_after}
use Rattle.tx_events.proofs.GivenIds.{legal_front, legal_last, legal_take}
use Rattle.tx_events.proofs.Horizons.{new_past, xmin_at}
use Rattle.tx_events.proofs.IdOrder.{next_full}
use Rattle.tx_events.proofs.Membership.{by_end}
use Rattle.tx_events.proofs.Visibility.{xmin_from}
use Rattle.proc_table.proofs.Bounds.{full_from, next_id_to, stop_to}
use Rattle.session_levels.specs.declared.session.RegisteredSnapshot.{RegisteredSnapshot}
use Rattle.session_levels.specs.Stands.{IsRegistered}
use Rattle.xact_reads.specs.Glances.{HasLimits}

-- behind an event that gives the next id, below its stop limit
given_small : (base : Counters) (h : List Event) (e : Event) (id : ℕ) → given (e ∷ []) ≡ id ∷ [] → IsNextGiven base h id → next_given base.next (h ++ e ∷ []) < 2 ^ 63
given_small base h e id gives n =
    let next = n.next in
    let below = n.below_stop in
    let stop = stop_to (oldest_id base.oldest h) in
    subst (λ z. z < 2 ^ 63) (sym (next_after base.next h e id gives)) (next_id_to (next_given base.next h) (omega arith))

-- and behind one that gives none
same_small : (base : Counters) (h : List Event) (e : Event) → given (e ∷ []) ≡ [] → next_given base.next h < 2 ^ 63 → next_given base.next (h ++ e ∷ []) < 2 ^ 63
same_small base h e none small = subst (λ t. nth_id base.next (length t) < 2 ^ 63) (sym (given_none h e none)) small

step_small : (base : Counters) (h : List Event) (e : Event) → MayCome base h e → next_given base.next h < 2 ^ 63 → next_given base.next (h ++ e ∷ []) < 2 ^ 63
step_small base h (events.Id by id) may small = given_small base h (events.Id by id) id refl may.0
step_small base h (events.Sub by parent id) may small = given_small base h (events.Sub by parent id) id refl may.0
step_small base h (events.Undo by id) may small = same_small base h (events.Undo by id) refl small
step_small base h (events.Commit by top) may small = same_small base h (events.Commit by top) refl small
step_small base h (events.Abort by top) may small = same_small base h (events.Abort by top) refl small
step_small base h (events.Snap name by) may small = same_small base h (events.Snap name by) refl small
step_small base h (events.SnapDrop name by) may small = same_small base h (events.SnapDrop name by) refl small
step_small base h (events.Oldest by oldest) may small = same_small base h (events.Oldest by oldest) refl small
step_small base h (events.Ask by id) may small = same_small base h (events.Ask by id) refl small

pub next_small : (base : Counters) (h : List Event) → IsBase base → IsLegal base h → next_given base.next h < 2 ^ 63
next_small base h b = by_end (λ g. IsLegal base g → next_given base.next g < 2 ^ 63)
    (λ legal. let n = b.next in let s = stop_to base.oldest in omega arith)
    (λ g e before legal. step_small base g e (legal_last base g e legal) (before (legal_front base g e legal))) h

-- no horizon is a special id
pub horizon_from : (base : Counters) (h : List Event) → IsBase base → IsLegal base h → 3 ≤ oldest_xmin base.next h
horizon_from base h b legal =
    let first = full_from base.next b.full in
    let low : 3 ≤ oldest_xmin base.next [] = full_from (snapshot_xmax base.next []) (next_full (latest base.next [])) in
    let up : oldest_xmin base.next [] ≤ oldest_xmin base.next h = xmin_at base [] h legal b.full (omega arith) in
    omega arith

pub xmax_to_next : (base : Counters) (h : List Event) → IsBase base → IsLegal base h → snapshot_xmax base.next h ≤ next_given base.next h
xmax_to_next base h b legal = let n = full_from base.next b.full in new_past base h legal b.full (omega arith)

pub registered_limits : (base : Counters) (h : List Event) (n : ℕ) (k : RegisteredSnapshot) → IsBase base → IsLegal base h → IsRegistered base h n k → HasLimits k.snapshot
registered_limits base h n k b legal r =
    let g : List Event = take k.place h in
    let front = legal_take base h k.place legal in
    let first = full_from base.next b.full in
    let from = xmin_from base g front b.full in
    let to = xmax_to_next base g b front in
    let small = next_small base g b front in
    subst HasLimits (sym r.holds) (record { xmin = omega arith; xmax = full_from (snapshot_xmax base.next g) (next_full (latest base.next g)); to = omega arith })
