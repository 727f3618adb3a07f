-- What a rule is asked by, and what is so at one place.
use Rattle.std.specs.Prelude.{◌≡◌, ℕ, ◌<◌, ◌≤◌, ◌↔◌, ◌⊎◌, IsTrue, Bool, true, false, List, Option, Some, IfSome, Contains, map, take}
use Rattle.std.specs.List.{slice_get}
use Rattle.tx_events.specs.declared.event.By.{By}
use Rattle.tx_events.specs.declared.event.Event.{Event}
use Rattle.tx_events.specs.declared.event.Event.TheVariants as events
use Rattle.tx_events.specs.declared.record.Counters.{Counters}
use Rattle.tx_events.specs.declared.record.Rec.{Rec}
use Rattle.tx_events.specs.declared.snapshot.SnapData.{SnapData}
use Rattle.tx_events.specs.Events.{by_of}
use Rattle.tx_events.specs.History.{next_given}
use Rattle.tx_events.specs.Horizon.{oldest_id}
use Rattle.tx_events.specs.Limits.{warn_limit}
use Rattle.tx_events.specs.Nearest.{near_id}
use Rattle.tx_events.specs.Snapshots.{snapshot_data}
use Rattle.tx_events.specs.Visible.{is_visible}
use Rattle.tx_model.specs.declared.reply.Status.{Status}
use Rattle.tx_model.specs.Replies.{IsGivenAt, RoundSpan, status_after}
use Rattle.life_law.specs.DidCommit.{IsRecorded}
use Rattle.history_places.specs.declared.snaps.SnapMark.{SnapMark}
use Rattle.report_law.specs.Kinds.{IsAskAt, IsSnapAt}
use Rattle.report_law.specs.Places.{MayReadIn}

-- these are exactly the places of the command's events
abbrev pub AreItsPlaces : List Event → By → List ℕ → Type 0
AreItsPlaces h by run = (p : ℕ) → (slice_get (map by_of h) p ≡ Some by) ↔ Contains run p

-- these are exactly the places where the command may read
abbrev pub AreReadPlaces : List Event → RoundSpan → By → ℕ → ℕ → Type 0
AreReadPlaces h round by from to = (p : ℕ) → MayReadIn h round by p ↔ ((from ≤ p) × (p ≤ to))

-- ---- by what a rule is asked

-- a command that was answered with a snapshot's lists, and what the replies of all tell of snapshots
pub record Snapping : Type 0 where
  pub first : ℕ
  pub events : List Event
  pub told : By → Option SnapData
  pub by : By
  pub lists : SnapData

pub record Asking : Type 0 where
  pub ids : List ℕ
  pub by : By

pub record Asked : Type 0 where
  pub round : RoundSpan
  pub by : By

pub record Did : Type 0 where
  pub ids : List ℕ
  pub recs : List Rec
  pub round : RoundSpan
  pub by : By

-- ---- what is so at one place

pub record IsRightMark (snaps : List (Option SnapMark)) (place : ℕ) : Type 0 where
  pub mark : SnapMark
  pub stands : slice_get snaps place ≡ Some (Some mark)
  pub right : IsTrue mark.right

abbrev pub IsSnapped : Snapping → Type 0
IsSnapped s = (place : ℕ) × IsSnapAt s.events s.by place × (s.lists ≡ snapshot_data s.first (take place s.events))

abbrev pub IsAsk : Event → Type 0
IsAsk e = (by : By) × (id : ℕ) × (e ≡ events.Ask by id)

pub record IsStatusHere (base : Counters) (ids : List ℕ) (h : List Event) (by : By) (x : ℕ) (status : Status) (place : ℕ) : Type 0 where
  pub asked : IsAskAt h by place
  pub young : oldest_id base.oldest (take place h) ≤ x
  pub given : x < next_given base.next (take place h)
  pub exact : status ≡ status_after ids (take place h) x

pub record IsFutureHere (base : Counters) (h : List Event) (by : By) (next place : ℕ) : Type 0 where
  pub asked : IsAskAt h by place
  pub next_is : next ≡ next_given base.next (take place h)

pub record IsWarnedHere (base : Counters) (h : List Event) (by : By) (place : ℕ) : Type 0 where
  pub id : ℕ
  pub given : IsGivenAt h by place id
  pub late : warn_limit (oldest_id base.oldest (take place h)) ≤ id

pub record IsDidHere (base : Counters) (ids : List ℕ) (h : List Event) (recs : List Rec) (from x : ℕ) (answer : Bool) (place : ℕ) : Type 0 where
  pub id : ℕ
  pub near : near_id (next_given base.next (take place h)) x ≡ Some id
  pub for_yes : answer ≡ true → Contains ids id ⊎ IsRecorded recs id
  pub for_no : answer ≡ false → is_visible ids (take from h) id ≡ false

abbrev pub IsOlderThere : Counters → List Event → ℕ → ℕ → ℕ → Type 0
IsOlderThere base h x oldest place = IfSome (near_id (next_given base.next (take place h)) x) (λ id. id < oldest)
