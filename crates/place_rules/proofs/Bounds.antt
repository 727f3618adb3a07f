-- How far the ids go near which a stored half means one.
use Rattle.std.proofs.Common.{◌≡◌, ℕ, ◌^◌, ◌<◌, ◌≤◌, List, take, arith}
use Rattle.tx_events.specs.declared.event.Event.{Event}
use Rattle.tx_events.specs.declared.record.Counters.{Counters}
use Rattle.tx_events.specs.Base.{IsBase}
use Rattle.tx_events.specs.History.{IsLegal, next_given}
use Rattle.tx_events.proofs.GivenIds.{legal_take}
use Rattle.proc_table.proofs.Bounds.{first_to_next, full_from}
use Rattle.history_check.proofs.OldestBounds.{bounded}

pub next_bounds : (base : Counters) (h : List Event) (p n : ℕ) → IsBase base → IsLegal base h → n ≡ next_given base.next (take p h) → (3 ≤ n) × (n < 2 ^ 63)
next_bounds base h p n b legal is =
    let from = full_from base.next b.full in
    let up = first_to_next base.next (take p h) in
    let to = (bounded base (take p h) b (legal_take base h p legal)).to in
    (omega arith, omega arith)
