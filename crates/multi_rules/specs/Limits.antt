-- To which multixact the oldest one could be raised.
use Rattle.std.specs.Prelude.{◌≡◌, ℕ, ◌+◌, ◌^◌, ◌<◌, ◌≤◌, ◌↔◌, ◌⊎◌, ◌==◌, ◌&&◌, ◌||◌, nat_lt, Bool, List, Contains, length, take, slice_index_or}
use Rattle.std.specs.List.{HoldsAt, count_by}
use Rattle.std.specs.Ordering.{nat_cmp}
use Rattle.counted_map.specs.declared.CountedMap.{CountedMap}
use Rattle.counted_map.specs.Counts.{Counts, counted}
use Rattle.tx_events.specs.declared.event.By.{By}
use Rattle.tx_events.specs.declared.multi.MultiEvent.{MultiEvent}
use Rattle.tx_events.specs.declared.multi.MultiEvent.TheVariants as multis
use Rattle.tx_events.specs.declared.record.Counters.{Counters}
use Rattle.tx_events.specs.Multis.{Pin, pin_limit}
use Rattle.tx_model.specs.Replies.{RoundSpan}
use Rattle.multi_rules.specs.declared.limits.LimitAt.{LimitAt}

-- ---- pins

-- how often the multixact is pinned
abbrev pub pinned : List Pin → ℕ → ℕ
pinned held multi = count_by (λ (p : Pin). p.1 == multi) held

-- each multixact is counted as often as it is pinned
abbrev pub IsTally : List Pin → CountedMap ℕ → Type 0
IsTally held counts = Counts nat_cmp (pinned held) counts

-- what the event lets go was held
abbrev pub LetsGoHeld : List Pin → MultiEvent → Type 0
LetsGoHeld held (multis.Unhold by multi) = Contains held (by.session, multi)
LetsGoHeld held e = Unit {0}

-- one pin more can be counted
abbrev pub FitsMore : CountedMap ℕ → MultiEvent → Type 0
FitsMore counts (multis.Hold by multi) = counted nat_cmp counts multi + 1 < 2 ^ 64
FitsMore counts e = Unit {0}

-- ---- limits

-- the limit at this place
abbrev pub IsLimitAt : Counters → List MultiEvent → ℕ → LimitAt → Type 0
IsLimitAt base h place at = (at.place ≡ place) × (at.limit ≡ pin_limit base.multi (take place h))

-- those at the places below n, one after the other
pub record AreLimitsBelow (base : Counters) (h : List MultiEvent) (n : ℕ) (limits : List LimitAt) : Type 0 where
  pub size : length limits ≡ n
  pub each : (p : ℕ) → p < n → HoldsAt (IsLimitAt base h p) limits p

-- a lower limit, or the same one at no later place
abbrev pub IsUpto : LimitAt → LimitAt → Type 0
IsUpto a b = (a.limit < b.limit) ⊎ ((a.limit ≡ b.limit) × (a.place ≤ b.place))

abbrev pub AreInOrder : List LimitAt → Type 0
AreInOrder limits = (i j : ℕ) (d : LimitAt) → i ≤ j → j < length limits → IsUpto (slice_index_or limits i d) (slice_index_or limits j d)

-- those at all places of the history and at the one behind it, in the order of the limits
pub record AreHeldLimits (base : Counters) (h : List MultiEvent) (limits : List LimitAt) : Type 0 where
  pub order : AreInOrder limits
  pub each : (at : LimitAt) → Contains limits at ↔ ((at.place ≤ length h) × (at.limit ≡ pin_limit base.multi (take at.place h)))

abbrev pub is_before : ℕ → ℕ → LimitAt → Bool
is_before limit place at = nat_lt at.limit limit || ((at.limit == limit) && nat_lt at.place place)

-- one of them is this limit, at a place from here to there
abbrev pub IsLimitWithin : List LimitAt → ℕ → ℕ → ℕ → Type 0
IsLimitWithin limits limit from to = (at : LimitAt) × Contains limits at × (at.limit ≡ limit) × (from ≤ at.place) × (at.place ≤ to)

-- a life's history, a command of it and where its round stands
pub record Holding : Type 0 where
  pub base : Counters
  pub events : List MultiEvent
  pub round : RoundSpan
  pub by : By
