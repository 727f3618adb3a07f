-- What a history announces and holds back: the oldest id, the live snapshots, the oldest xmin.
use Rattle.std.specs.Prelude.{ℕ, ◌==◌, ◌&&◌, not, min, Bool, List, [], ◌∷◌, ◌++◌, reverse, map}
use Rattle.std.specs.List.{filter, fold, list_any}
use Rattle.tx_events.specs.declared.event.Event.{Event}
use Rattle.tx_events.specs.declared.event.Event.TheVariants as events
use Rattle.tx_events.specs.Events.{same_name}
use Rattle.tx_events.specs.Snapshots.{snapshot_xmin}

-- the announced oldest id, after one more event
abbrev pub announced_after : ℕ → Event → ℕ
announced_after oldest (events.Oldest by new) = new
announced_after oldest _ = oldest

-- the oldest id that was announced last, or with which the life began
abbrev pub oldest_id : ℕ → List Event → ℕ
oldest_id oldest h = fold announced_after oldest h

-- a snapshot that its session hasn't dropped
pub record LiveSnap : Type 0 where
  pub session : ℕ
  pub name : List ℕ
  pub xmin : ℕ

abbrev pub is_snap_of : ℕ → List ℕ → LiveSnap → Bool
is_snap_of session name s = (s.session == session) && same_name s.name name

-- the live snapshots, in the order in which they were taken. The events go from the newest to the oldest
abbrev pub live_up : ℕ → List Event → List LiveSnap
live_up first [] = []
live_up first (events.Snap taken by ∷ older) =
    live_up first older ++ record { session = by.session; name = taken; xmin = snapshot_xmin first (reverse older) } ∷ []
live_up first (events.SnapDrop dropped by ∷ older) = filter (λ s. not (is_snap_of by.session dropped s)) (live_up first older)
live_up first (e ∷ older) = live_up first older

abbrev pub live_snaps : ℕ → List Event → List LiveSnap
live_snaps first h = live_up first (reverse h)

abbrev pub is_live : ℕ → ℕ → List ℕ → List Event → Bool
is_live first session name h = list_any (is_snap_of session name) (live_snaps first h)

-- nothing that is older is still asked for
abbrev pub oldest_xmin : ℕ → List Event → ℕ
oldest_xmin first h = fold min (snapshot_xmin first h) (map (λ s. s.xmin) (live_snaps first h))
