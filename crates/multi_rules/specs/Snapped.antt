-- The snapshots that a command took, in order.
use Rattle.std.specs.Prelude.{◌≡◌, ℕ, zero, suc, ◌+◌, ◌^◌, ◌<◌, ◌≤◌, ◌↔◌, nat_le, Bool, List, [], ◌∷◌, Option, Some, None, length, slice_get, take}
use Rattle.std.specs.Global.{Vec}
use Rattle.std.specs.List.{filter_map}
use Rattle.place_columns.specs.Lined.{places_of}
use Rattle.tx_events.specs.declared.event.By.{By}
use Rattle.tx_events.specs.declared.event.Event.{Event}
use Rattle.tx_events.specs.declared.snapshot.SnapData.{SnapData}
use Rattle.tx_events.specs.Snapshots.{snapshot_xmax}
use Rattle.place_columns.specs.declared.span.Span.{Span}
use Rattle.history_places.specs.declared.snaps.SnapMark.{SnapMark}
use Rattle.report_law.specs.Kinds.{IsSnapAt}
use Rattle.multi_rules.specs.declared.taken.Taken.{Taken}

-- these are the command's snapshots: where it took them, and what their xmax was
pub record AreTaken (first : ℕ) (h : List Event) (by : By) (taken : List Taken) : Type 0 where
  pub rising : (i j : ℕ) (s t : Taken) → i ≤ j → slice_get taken i ≡ Some s → slice_get taken j ≡ Some t → s.place ≤ t.place
  pub each : (i : ℕ) (t : Taken) → slice_get taken i ≡ Some t → IsSnapAt h by t.place × (t.xmax ≡ snapshot_xmax first (take t.place h))
  pub all : (p : ℕ) → IsSnapAt h by p → (i : ℕ) × (t : Taken) × (slice_get taken i ≡ Some t) × (t.place ≡ p)

-- the list of this line; there is none past the end of the lists
abbrev pub taken_in : List (Vec Taken) → ℕ → List Taken
taken_in [] i = []
taken_in (l ∷ lists) zero = l.items
taken_in (l ∷ lists) (suc i) = taken_in lists i

-- those of each line's command
abbrev pub AreTakenByLines : ℕ → List Event → List By → List (Vec Taken) → Type 0
AreTakenByLines first h bys lists = (i : ℕ) (by : By) → slice_get bys i ≡ Some by → AreTaken first h by (taken_in lists i)

-- a life's whole history and the front of it that is judged, its first id, and what the replies tell of snapshots
pub record LifeEvents : Type 0 where
  pub all : List Event
  pub events : List Event
  pub first : ℕ
  pub told : By → Option SnapData

-- the snapshot at this place, which has this mark if it is one
abbrev pub taken_here : ℕ → Option (Option SnapMark) → Option Taken
taken_here place (Some (Some mark)) = Some (record { place = place; xmax = mark.xmax })
taken_here place mark = None

abbrev pub taken_at : List (Option SnapMark) → ℕ → Option Taken
taken_at snaps place = taken_here place (slice_get snaps place)

-- at the places of none of these lines a snapshot is taken
abbrev pub AreNoneTaken : List (Option SnapMark) → List ℕ → ℕ → ℕ → Type 0
AreNoneTaken snaps numbers from end = (n : ℕ) → from ≤ n → n < end → filter_map (taken_at snaps) (places_of n numbers) ≡ []

-- ---- which of them

-- these are the first ones, up to below `end`, exactly where P holds
pub record AreFirst (P : Taken → Type 0) (taken : List Taken) (end : ℕ) : Type 0 where
  pub within : end ≤ length taken
  pub each : (i : ℕ) (t : Taken) → slice_get taken i ≡ Some t → P t ↔ (i < end)

-- these are the ones from `span.from` to below `span.end`, exactly where P holds
pub record AreBetween (P : Taken → Type 0) (taken : List Taken) (span : Span) : Type 0 where
  pub within : (i : ℕ) → span.from ≤ i → i < span.end → i < length taken
  pub each : (i : ℕ) (t : Taken) → slice_get taken i ≡ Some t → P t ↔ ((span.from ≤ i) × (i < span.end))

-- they stand in order, at places of a history of this length
pub record AreInHistory (size : ℕ) (taken : List Taken) : Type 0 where
  pub within : (i : ℕ) (t : Taken) → slice_get taken i ≡ Some t → t.place ≤ size
  pub rising : (i j : ℕ) (s t : Taken) → i ≤ j → slice_get taken i ≡ Some s → slice_get taken j ≡ Some t → s.place ≤ t.place

-- no xmax is below one before it
abbrev pub NeverFall : List Taken → Type 0
NeverFall taken = (i j : ℕ) (s t : Taken) → i ≤ j → slice_get taken i ≡ Some s → slice_get taken j ≡ Some t → s.xmax ≤ t.xmax

-- the id is 2^31 or more above the xmax
abbrev pub IsFarBelow : ℕ → Taken → Type 0
IsFarBelow id t = t.xmax + 2 ^ 31 ≤ id

abbrev pub is_far_below : ℕ → Taken → Bool
is_far_below id t = nat_le (t.xmax + 2 ^ 31) id

-- the xmax is at most 2^31 above the id
abbrev pub IsNotFarAbove : ℕ → Taken → Type 0
IsNotFarAbove id t = t.xmax ≤ id + 2 ^ 31

abbrev pub is_not_far_above : ℕ → Taken → Bool
is_not_far_above id t = nat_le t.xmax (id + 2 ^ 31)
