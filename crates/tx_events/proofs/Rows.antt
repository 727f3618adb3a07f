use Rattle.std.proofs.Common.{◌≡◌, ℕ, ◌+◌, List, [], ◌∷◌, ◌++◌, refl, true, false, map, take}
use Rattle.std.specs.List.{range_with_len}
use Rattle.tx_events.specs.declared.event.By.{By}
use Rattle.tx_events.specs.declared.event.Event.{Event}
use Rattle.tx_events.specs.declared.event.Event.TheVariants as events
use Rattle.tx_events.specs.declared.snapshot.SnapData.{SnapData}
use Rattle.tx_events.specs.Running.{open_ids}
use Rattle.tx_events.specs.Visible.{is_visible}
use Rattle.tx_events.specs.Snapshots.{snapshot_data}
use Rattle.tx_events.specs.Limits.{stop_limit, warn_limit}
use Rattle.tx_events.specs.Ids.{next_id}

abbrev by : ℕ → ℕ → By
by s n = record { session = s; command = n }

abbrev lists : ℕ → ℕ → List ℕ → List ℕ → SnapData
lists xmin xmax xip sub = record { xmin = xmin; xmax = xmax; xip = xip; subxip = sub; overflowed = false }

-- an id is given and committed: a snapshot after it sees it
abbrev committed : List Event
committed = events.Id (by 0 2) 3 ∷ events.Commit (by 0 3) 3 ∷ []

row_two : snapshot_data 3 committed ≡ lists 4 4 [] []
row_two = refl

row_two_sees : is_visible [] committed 3 ≡ true
row_two_sees = refl

-- a snapshot while it runs doesn't
abbrev given_only : List Event
given_only = events.Id (by 0 2) 3 ∷ []

row_three : snapshot_data 3 given_only ≡ lists 3 3 [] []
row_three = refl

row_three_hides : is_visible [] given_only 3 ≡ false
row_three_hides = refl

-- savepoints, one of them rolled back
abbrev savepoints : List Event
savepoints =
    events.Id (by 0 2) 3 ∷ events.Sub (by 0 4) 3 4 ∷ events.Undo (by 0 5) 4 ∷ events.Sub (by 0 7) 3 5 ∷ events.Commit (by 0 8) 3 ∷ []

row_four : snapshot_data 3 savepoints ≡ lists 6 6 [] []
row_four = refl

row_four_hides : is_visible [] savepoints 4 ≡ false
row_four_hides = refl

row_four_sees : is_visible [] savepoints 5 ≡ true
row_four_sees = refl

row_four_before : open_ids 0 (take 4 savepoints) ≡ 3 ∷ 5 ∷ []
row_four_before = refl

-- the limits of an id that begins at 3
stop_at : stop_limit 3 ≡ 2144483650
stop_at = refl

warn_at : warn_limit 3 ≡ 2107483650
warn_at = refl

-- the ids round the end of 32 bits
row_six : next_id 4294967295 ≡ 4294967299
row_six = refl

-- another session in between
abbrev two : List Event
two = events.Id (by 0 2) 3 ∷ events.Id (by 1 2) 4 ∷ events.Commit (by 1 3) 4 ∷ []

row_nineteen : snapshot_data 3 two ≡ lists 3 5 (3 ∷ []) []
row_nineteen = refl

-- a top and 65 subids, and another transaction
abbrev subs : ℕ → List Event
subs n = map (λ x. events.Sub (by 0 66) (x + 3) (x + 4)) (range_with_len 0 n)

abbrev deep : List Event
deep = events.Id (by 0 66) 3 ∷ subs 64 ++ events.Id (by 2 2) 68 ∷ events.Commit (by 2 3) 68 ∷ []

row_five : snapshot_data 3 deep ≡ lists 3 69 (3 ∷ []) (range_with_len 4 64)
row_five = refl

abbrev deeper : List Event
deeper = deep ++ events.Sub (by 0 68) 67 69 ∷ events.Id (by 2 5) 70 ∷ events.Commit (by 2 6) 70 ∷ []

row_five_overflows : snapshot_data 3 deeper ≡ record { xmin = 3; xmax = 71; xip = 3 ∷ []; subxip = []; overflowed = true }
row_five_overflows = refl
