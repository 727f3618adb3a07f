-- How far the numbers of a state go.
use Rattle.proc_table.proofs.Bounds.{latest_bounds, first_to_next, full_from}
use Rattle.proc_table.specs.State.{IsState}
use Rattle.proc_table.specs.declared.entry.Entry.{Entry}
use Rattle.proc_table.specs.declared.live.LiveSnapshots.{LiveSnapshots}
use Rattle.std.proofs.Common.{◌≡◌, ℕ, ◌<◌, ◌≤◌, List, arith, ◌+◌, ◌^◌}
use Rattle.tx_events.specs.History.{next_given}
use Rattle.tx_events.specs.Snapshots.{latest}
use Rattle.tx_events.specs.declared.event.Event.{Event}
use Rattle.tx_events.specs.declared.record.Counters.{Counters}

pub next_from : (base : Counters) (h : List Event) (n oldest late promised : ℕ) (entries : List Entry) (lives : LiveSnapshots) → IsState base h n oldest late promised entries lives → 3 ≤ n
next_from base h n oldest late promised entries lives s =
    let a : 3 ≤ base.next = full_from base.next s.base_is.full in
    let b : base.next ≤ next_given base.next h = first_to_next base.next h in
    let e : n ≡ next_given base.next h = s.next_is in
    omega arith

pub late_bounds : (base : Counters) (h : List Event) (n oldest late promised : ℕ) (entries : List Entry) (lives : LiveSnapshots) → IsState base h n oldest late promised entries lives → (2 ≤ late) × (late + 1 < 2 ^ 63)
late_bounds base h n oldest late promised entries lives s =
    let b = latest_bounds base h s.base_is s.legal in
    let from : 2 ≤ latest base.next h = b.0 in
    let to : latest base.next h < next_given base.next h = b.1 in
    let e : n ≡ next_given base.next h = s.next_is in
    let f : late ≡ latest base.next h = s.latest_is in
    let u : n < 2 ^ 63 = s.next_to in
    (omega arith, omega arith)
