-- An id that is open is not before the announced oldest one.
use Rattle.std.proofs.Common.{List, [], arith, map, subst, sym, ◌++◌, ◌∷◌, ◌≤◌}
use Rattle.tx_events.specs.declared.event.Event.{Event}
use Rattle.tx_events.specs.declared.event.Event.TheVariants as events
use Rattle.tx_events.specs.declared.record.Counters.{Counters}
use Rattle.tx_events.proofs.Extremes.{fold_min_has, fold_min_start}
use Rattle.tx_events.proofs.GivenIds.{given_to_given, legal_front, legal_last, open_below}
use Rattle.tx_events.proofs.Horizons.{xmin_at}
use Rattle.tx_events.proofs.HorizonSteps.{oldest_push}
use Rattle.tx_events.proofs.IdOrder.{next_of_before}
use Rattle.tx_events.proofs.Membership.{by_end, contains_has, has_filter}
use Rattle.tx_events.proofs.Lineages.{top_in}
use Rattle.tx_events.proofs.SnapshotBounds.{top_runs}
use Rattle.tx_events.proofs.Trees.{family}
use Rattle.tx_events.specs.Base.{IsBase}
use Rattle.tx_events.specs.Events.{given_to}
use Rattle.tx_events.specs.Families.{top}
use Rattle.tx_events.specs.History.{IsLegal, MayCome}
use Rattle.tx_events.specs.Horizon.{LiveSnap, announced_after, live_snaps, oldest_id, oldest_xmin}
use Rattle.tx_events.specs.Running.{is_open, running_tops}
use Rattle.tx_events.specs.Snapshots.{snapshot_xmax, snapshot_xmin}
use Rattle.tx_core.proofs.HorizonLaws.{positive}
use Rattle.tx_core.specs.Entries.{history}
use Rattle.tx_core.specs.Consequences.{OpenKept}
use Rattle.tx_core.specs.Held.{OpenRuns}

announced_step : (base : Counters) (h : List Event) (e : Event) → oldest_id base.oldest h ≤ oldest_xmin base.next h → oldest_xmin base.next h ≤ oldest_xmin base.next (h ++ e ∷ []) → MayCome base h e
    → announced_after (oldest_id base.oldest h) e ≤ oldest_xmin base.next (h ++ e ∷ [])
announced_step base h (events.Oldest by oldest) before up rule = let r = rule.1 in omega arith
announced_step base h _ before up rule = omega arith

-- the announced oldest id is not past the oldest xmin
announced_under : (base : Counters) → IsBase base → (h : List Event) → IsLegal base h → oldest_id base.oldest h ≤ oldest_xmin base.next h
announced_under base is = by_end (λ h. IsLegal base h → oldest_id base.oldest h ≤ oldest_xmin base.next h)
    (λ legal. let a = next_of_before base.next is.full in let b = is.oldest in omega arith)
    (λ h e before legal.
    let up = xmin_at base h (e ∷ []) legal is.full (positive base.next is.full) in
    subst (λ z. z ≤ oldest_xmin base.next (h ++ e ∷ [])) (sym (oldest_push base.oldest h e)) (announced_step base h e (before (legal_front base h e legal)) up (legal_last base h e legal)))

-- it is from the oldest xmin on
pub open_runs : OpenRuns
open_runs start lists session x k among =
    let h : List Event = history lists in
    let base : Counters = start.base in
    let o = has_filter (is_open h) (given_to session h) x (contains_has _ x among) in
    let f = family base h k.events.legal x (given_to_given session h x o.0) in
    let low : top h x ≤ x = f.below (top h x) (top_in h x) in
    let runs : snapshot_xmin base.next h ≤ top h x = fold_min_has (snapshot_xmax base.next h) (running_tops h) (top h x) (top_runs h x f o.1) in
    let xmin : oldest_xmin base.next h ≤ snapshot_xmin base.next h = fold_min_start (snapshot_xmin base.next h) (map (λ (s : LiveSnap). s.xmin) (live_snaps base.next h)) in
    (omega arith, open_below base h session x k.events.legal among)

pub open_kept : OpenKept
open_kept start lists session x k is among =
    let past = (open_runs start lists session x k among).0 in
    let announced = announced_under start.base is (history lists) k.events.legal in omega arith
