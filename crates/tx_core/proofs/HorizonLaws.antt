-- The oldest xmin of the history never falls while the lists grow, and is held back by each live snapshot.
use Rattle.std.proofs.Common.{arith, subst, sym, ℕ, ◌%◌, ◌<◌, ◌^◌, ◌≤◌}
use Rattle.tx_events.specs.Ids.{IsFullId}
use Rattle.tx_events.proofs.Horizons.{live_under, xmin_at}
use Rattle.tx_events.proofs.Membership.{contains_has}
use Rattle.tx_events.specs.History.{IsLegal}
use Rattle.tx_events.specs.Horizon.{live_snaps, oldest_xmin}
use Rattle.tx_core.proofs.Lasting.{history_grows}
use Rattle.tx_core.specs.Entries.{history}
use Rattle.tx_core.specs.Consequences.{HorizonRises, SnapshotsHold}

pub positive : (n : ℕ) → IsFullId n → 0 < n
positive n full = let f : 3 ≤ n % 2 ^ 32 = full in omega arith

pub horizon_rises : HorizonRises
horizon_rises start lists more k grows base =
    let b = history_grows lists more grows in
    let a = xmin_at start.base (history lists) b.0 (subst (IsLegal start.base) (sym b.1) k.events.legal) base.full (positive start.base.next base.full) in
    subst (λ t. oldest_xmin start.base.next (history lists) ≤ oldest_xmin start.base.next t) b.1 a

pub snapshots_hold : SnapshotsHold
snapshots_hold start lists more s k grows base live =
    let a = horizon_rises start lists more k grows base in
    let b = live_under start.base.next (history more) s (contains_has (live_snaps start.base.next (history more)) s live) in omega arith
