-- The announced oldest id isn't past the next one, which is below 2^63.
use Rattle.std.proofs.Common.{◌≡◌, ℕ, ◌^◌, ◌<◌, ◌≤◌, List, [], ◌∷◌, ◌++◌, length, map, refl, ap, sym, ◌∙◌, arith}
use Rattle.tx_events.specs.declared.event.Event.{Event}
use Rattle.tx_events.specs.declared.event.Event.TheVariants as events
use Rattle.tx_events.specs.declared.record.Counters.{Counters}
use Rattle.tx_events.specs.Base.{IsBase}
use Rattle.tx_events.specs.Events.{given}
use Rattle.tx_events.specs.History.{IsLegal, IsNextGiven, MayCome, next_given, nth_id}
use Rattle.tx_events.specs.Horizon.{LiveSnap, live_snaps, oldest_id, oldest_xmin}
use Rattle.tx_events.specs.Ids.{next_id}
use Rattle.tx_events.specs.Limits.{stop_limit}
use Rattle.tx_events.specs.Running.{running_tops}
use Rattle.tx_events.specs.Snapshots.{snapshot_xmax, snapshot_xmin}
use Rattle.tx_events.proofs.Extremes.{fold_min_start}
use Rattle.tx_events.proofs.GivenGrowth.{given_none, next_after}
use Rattle.tx_events.proofs.GivenIds.{legal_front, legal_last, next_rises}
use Rattle.tx_events.proofs.HorizonSteps.{oldest_push}
use Rattle.tx_events.proofs.Horizons.{new_past}
use Rattle.tx_events.proofs.Membership.{by_end}
use Rattle.proc_table.proofs.Bounds.{next_id_to, stop_to, full_from}

pub record AreBounded (base : Counters) (h : List Event) : Type 0 where
  pub order : oldest_id base.oldest h ≤ next_given base.next h
  pub to : next_given base.next h < 2 ^ 63

-- an event that announces nothing leaves the oldest id
same_oldest : (base : Counters) (h : List Event) (e : Event) → oldest_id base.oldest (h ++ e ∷ []) ≡ oldest_id base.oldest h → next_given base.next (h ++ e ∷ []) < 2 ^ 63 → AreBounded base h → AreBounded base (h ++ e ∷ [])
same_oldest base h e same to b =
    let r = next_rises base h e in
    let o = b.order in
    record { order = omega arith; to = to }

given_to : (base : Counters) (h : List Event) (e : Event) (n : ℕ) → IsNextGiven base h n → given (e ∷ []) ≡ n ∷ [] → next_given base.next (h ++ e ∷ []) < 2 ^ 63
given_to base h e n next gives =
    let stop = stop_to (oldest_id base.oldest h) in
    let below : n < stop_limit (oldest_id base.oldest h) = next.below_stop in
    let small : next_id n < 2 ^ 63 = next_id_to n (omega arith) in
    let is : next_given base.next (h ++ e ∷ []) ≡ next_id n = next_after base.next h e n gives ∙ ap next_id (sym next.next) in
    omega arith

quiet_to : (base : Counters) (h : List Event) (e : Event) → next_given base.next (h ++ e ∷ []) ≡ next_given base.next h → AreBounded base h → next_given base.next (h ++ e ∷ []) < 2 ^ 63
quiet_to base h e same b = let t = b.to in omega arith

quiet_next : (base : Counters) (h : List Event) (e : Event) → given (e ∷ []) ≡ [] → next_given base.next (h ++ e ∷ []) ≡ next_given base.next h
quiet_next base h e none = ap (λ t. nth_id base.next (length t)) (given_none h e none)

bounded_step : (base : Counters) (h : List Event) (e : Event) → IsBase base → IsLegal base h → MayCome base h e → AreBounded base h → AreBounded base (h ++ e ∷ [])
bounded_step base h (events.Id by id) b legal may a = same_oldest base h (events.Id by id) (oldest_push base.oldest h (events.Id by id)) (given_to base h (events.Id by id) id may.0 refl) a
bounded_step base h (events.Sub by parent id) b legal may a = same_oldest base h (events.Sub by parent id) (oldest_push base.oldest h (events.Sub by parent id)) (given_to base h (events.Sub by parent id) id may.0 refl) a
bounded_step base h (events.Undo by id) b legal may a = same_oldest base h (events.Undo by id) (oldest_push base.oldest h (events.Undo by id)) (quiet_to base h (events.Undo by id) (quiet_next base h (events.Undo by id) refl) a) a
bounded_step base h (events.Commit by t) b legal may a = same_oldest base h (events.Commit by t) (oldest_push base.oldest h (events.Commit by t)) (quiet_to base h (events.Commit by t) (quiet_next base h (events.Commit by t) refl) a) a
bounded_step base h (events.Abort by t) b legal may a = same_oldest base h (events.Abort by t) (oldest_push base.oldest h (events.Abort by t)) (quiet_to base h (events.Abort by t) (quiet_next base h (events.Abort by t) refl) a) a
bounded_step base h (events.Snap name by) b legal may a = same_oldest base h (events.Snap name by) (oldest_push base.oldest h (events.Snap name by)) (quiet_to base h (events.Snap name by) (quiet_next base h (events.Snap name by) refl) a) a
bounded_step base h (events.SnapDrop name by) b legal may a = same_oldest base h (events.SnapDrop name by) (oldest_push base.oldest h (events.SnapDrop name by)) (quiet_to base h (events.SnapDrop name by) (quiet_next base h (events.SnapDrop name by) refl) a) a
bounded_step base h (events.Ask by id) b legal may a = same_oldest base h (events.Ask by id) (oldest_push base.oldest h (events.Ask by id)) (quiet_to base h (events.Ask by id) (quiet_next base h (events.Ask by id) refl) a) a
bounded_step base h (events.Oldest by oldest) b legal may a =
    let xmin : oldest ≤ oldest_xmin base.next h = may.1 in
    let live : oldest_xmin base.next h ≤ snapshot_xmin base.next h = fold_min_start (snapshot_xmin base.next h) (map (λ (s : LiveSnap). s.xmin) (live_snaps base.next h)) in
    let tops : snapshot_xmin base.next h ≤ snapshot_xmax base.next h = fold_min_start (snapshot_xmax base.next h) (running_tops h) in
    let from = full_from base.next b.full in
    let past : snapshot_xmax base.next h ≤ next_given base.next h = new_past base h legal b.full (omega arith) in
    let same : next_given base.next (h ++ events.Oldest by oldest ∷ []) ≡ next_given base.next h = quiet_next base h (events.Oldest by oldest) refl in
    let now : oldest_id base.oldest (h ++ events.Oldest by oldest ∷ []) ≡ oldest = oldest_push base.oldest h (events.Oldest by oldest) in
    let t = a.to in
    record { order = omega arith; to = omega arith }

pub bounded : (base : Counters) (h : List Event) → IsBase base → IsLegal base h → AreBounded base h
bounded base h b = by_end (λ h. IsLegal base h → AreBounded base h)
    (λ legal.
    let stop = stop_to base.oldest in
    let next = b.next in
    let order = b.oldest in
    record { order = order; to = omega arith })
    (λ h e before legal. bounded_step base h e b (legal_front base h e legal) (legal_last base h e legal) (before (legal_front base h e legal)))
    h

pub oldest_to : (base : Counters) (h : List Event) (n : ℕ) → IsBase base → IsLegal base h → n ≡ oldest_id base.oldest h → n < 2 ^ 63
oldest_to base h n b legal is = let a = bounded base h b legal in let o = a.order in let t = a.to in omega arith
