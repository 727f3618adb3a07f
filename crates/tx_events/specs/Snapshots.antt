-- What a snapshot holds that is taken after a history (GetSnapshotData).
use Rattle.std.specs.Prelude.{ℕ, ◌+◌, ◌==◌, ◌&&◌, not, nat_lt, min, max, Bool, List, [], take, length, cond}
use Rattle.std.specs.List.{filter, list_any, fold, range_with_len}
use Rattle.tx_events.specs.Ids.{next_id, id_before}
use Rattle.tx_events.specs.declared.event.Event.{Event}
use Rattle.tx_events.specs.declared.snapshot.SnapData.{SnapData}
use Rattle.tx_events.specs.Families.{top, is_top}
use Rattle.tx_events.specs.Running.{running, running_tops, closed}

-- the greatest id that was closed; at first the id before the first one
abbrev pub latest : ℕ → List Event → ℕ
latest first h = fold max (id_before first) (closed h)

abbrev pub snapshot_xmax : ℕ → List Event → ℕ
snapshot_xmax first h = next_id (latest first h)

abbrev pub snapshot_xips : ℕ → List Event → List ℕ
snapshot_xips first h = filter (λ x. nat_lt x (snapshot_xmax first h)) (running_tops h)

abbrev pub snapshot_xmin : ℕ → List Event → ℕ
snapshot_xmin first h = fold min (snapshot_xmax first h) (running_tops h)

-- the running subids of a top
abbrev pub running_subs : List Event → ℕ → List ℕ
running_subs h t = filter (λ x. (top h x == t) && not (is_top h x)) (running h)

-- at some place the top had more running subids than its entry has room for
abbrev pub has_overflowed : List Event → ℕ → Bool
has_overflowed h t = list_any (λ p. nat_lt 64 (length (running_subs (take p h) t))) (range_with_len 0 (length h + 1))

abbrev pub is_overflowed : ℕ → List Event → Bool
is_overflowed first h = list_any (has_overflowed h) (snapshot_xips first h)

abbrev pub snapshot_subs : ℕ → List Event → List ℕ
snapshot_subs first h =
    cond (is_overflowed first h) [] (filter (λ x. not (is_top h x) && list_any (λ t. t == top h x) (snapshot_xips first h)) (running h))

-- what a snapshot taken after these events holds
abbrev pub snapshot_data : ℕ → List Event → SnapData
snapshot_data first h =
    record {
      xmin = snapshot_xmin first h;
      xmax = snapshot_xmax first h;
      xip = snapshot_xips first h;
      subxip = snapshot_subs first h;
      overflowed = is_overflowed first h;
    }
