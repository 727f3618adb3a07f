-- Which histories are legal: each event at its place (varsup.c, procarray.c, xact.c).
use Rattle.std.specs.Prelude.{◌≡◌, ℕ, ◌<◌, ◌≤◌, true, false, List, [], length, Contains, suc, zero}
use Rattle.std.specs.List.{All, filter}
use Rattle.tx_events.specs.Ids.{IsFullId, next_id}
use Rattle.tx_events.specs.declared.event.Event.{Event}
use Rattle.tx_events.specs.declared.event.Event.TheVariants as events
use Rattle.tx_events.specs.declared.record.Counters.{Counters}
use Rattle.tx_events.specs.Places.{EachPlace}
use Rattle.tx_events.specs.Events.{by_of, given, is_of}
use Rattle.tx_events.specs.Families.{is_top}
use Rattle.tx_events.specs.Running.{open_ids}
use Rattle.tx_events.specs.Limits.{stop_limit}
use Rattle.tx_events.specs.Horizon.{oldest_id, oldest_xmin, is_live}

-- the id n places past the first one
abbrev pub nth_id : ℕ → ℕ → ℕ
nth_id first zero = first
nth_id first (suc n) = next_id (nth_id first n)

-- the id that is given next
abbrev pub next_given : ℕ → List Event → ℕ
next_given first h = nth_id first (length (given h))

-- the next id is given, and it is below the limit
pub record IsNextGiven (base : Counters) (before : List Event) (id : ℕ) : Type 0 where
  pub next : id ≡ next_given base.next before
  pub below_stop : id < stop_limit (oldest_id base.oldest before)

-- after the events before it, the event may come
abbrev pub MayCome : Counters → List Event → Event → Type 0
MayCome base before (events.Id by id) = IsNextGiven base before id × (open_ids by.session before ≡ [])
MayCome base before (events.Sub by parent id) = IsNextGiven base before id × Contains (open_ids by.session before) parent
MayCome base before (events.Undo by id) = Contains (open_ids by.session before) id × (is_top before id ≡ false)
MayCome base before (events.Commit by top) = Contains (open_ids by.session before) top × (is_top before top ≡ true)
MayCome base before (events.Abort by top) = Contains (open_ids by.session before) top × (is_top before top ≡ true)
MayCome base before (events.Snap name by) = is_live base.next by.session name before ≡ false
MayCome base before (events.SnapDrop name by) = is_live base.next by.session name before ≡ true
MayCome base before (events.Oldest by oldest) = (oldest_id base.oldest before ≤ oldest) × (oldest ≤ oldest_xmin base.next before)
MayCome base before (events.Ask by id) = IsFullId id

-- a session's events come in the order of its commands
abbrev pub ComesInTurn : List Event → Event → Type 0
ComesInTurn before e = All (λ f. (by_of f).command ≤ (by_of e).command) (filter (is_of (by_of e).session) before)

-- one legal history of starts and ends
pub record IsLegal (base : Counters) (h : List Event) : Type 0 where
  pub rules : EachPlace h (MayCome base)
  pub turns : EachPlace h ComesInTurn
