-- How far the xmax of a snapshot goes.
use Rattle.std.proofs.Common.{◌≡◌, ℕ, ◌^◌, ◌<◌, ◌≤◌, List, take, arith}
use Rattle.tx_events.specs.declared.event.By.{By}
use Rattle.tx_events.specs.declared.event.Event.{Event}
use Rattle.tx_events.specs.declared.record.Counters.{Counters}
use Rattle.tx_events.specs.Base.{IsBase}
use Rattle.tx_events.specs.History.{IsLegal, next_given}
use Rattle.tx_events.specs.Running.{running_tops}
use Rattle.tx_events.specs.Snapshots.{snapshot_xmax, snapshot_xmin}
use Rattle.tx_events.proofs.Extremes.{fold_min_start}
use Rattle.tx_events.proofs.GivenIds.{legal_take}
use Rattle.tx_events.proofs.Horizons.{new_past}
use Rattle.tx_events.proofs.Visibility.{xmin_from}
use Rattle.proc_table.proofs.Bounds.{first_to_next, full_from}
use Rattle.history_check.proofs.OldestBounds.{bounded}
use Rattle.multi_rules.specs.declared.taken.Taken.{Taken}
use Rattle.multi_rules.specs.Shown.{AreFull}
use Rattle.multi_rules.specs.Snapped.{AreTaken}

xmax_bounds : (base : Counters) (h : List Event) (p n : ℕ) → IsBase base → IsLegal base h → n ≡ snapshot_xmax base.next (take p h) → (3 ≤ n) × (n < 2 ^ 63)
xmax_bounds base h p n b legal is =
    let l = legal_take base h p legal in
    let from = full_from base.next b.full in
    let xmin : base.next ≤ snapshot_xmin base.next (take p h) = xmin_from base (take p h) l b.full in
    let xmax : snapshot_xmin base.next (take p h) ≤ snapshot_xmax base.next (take p h) = fold_min_start (snapshot_xmax base.next (take p h)) (running_tops (take p h)) in
    let past : snapshot_xmax base.next (take p h) ≤ next_given base.next (take p h) = new_past base (take p h) l b.full (omega arith) in
    let to = (bounded base (take p h) b l).to in
    (omega arith, omega arith)

pub are_full : (base : Counters) (h : List Event) (by : By) (taken : List Taken) → IsBase base → IsLegal base h → AreTaken base.next h by taken → AreFull taken
are_full base h by taken b legal a i t e = xmax_bounds base h t.place t.xmax b legal (a.each i t e).1
