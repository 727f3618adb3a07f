-- Where the multixacts of a life's base begin.
use Rattle.std.specs.Prelude.{◌≡◌, ℕ, ◌≤◌, ◌<◌, List, Contains, length, map}
use Rattle.std.specs.List.{HoldsAt}
use Rattle.tx_events.specs.declared.multi.MultiEvent.{MultiEvent}
use Rattle.tx_events.specs.declared.multi.MultiEvent.TheVariants as events
use Rattle.tx_events.specs.declared.record.Counters.{Counters}
use Rattle.tx_events.specs.IdLists.{Ascending}
use Rattle.tx_events.specs.Multis.{BaseOffset}
use Rattle.history_places.specs.declared.start.Start.{Start}

abbrev pub start_of : ℕ → ℕ → Start
start_of multi offset = record { multi = multi; offset = offset }

-- where a multixact of the base begins
abbrev pub BeginsAs : List Start → BaseOffset
BeginsAs starts before multi offset = Contains starts (start_of multi offset)

-- Where multixacts of the base begin: in the order of their numbers, none past the base's next free offset, and from the
-- oldest multixact on none before the oldest offset.
pub record FitsBase (base : Counters) (starts : List Start) : Type 0 where
  pub order : Ascending (map (λ (s : Start). s.multi) starts)
  pub rising : (s t : Start) → Contains starts s → Contains starts t → s.multi ≤ t.multi → s.offset ≤ t.offset
  pub most : (s : Start) → Contains starts s → s.offset ≤ base.offset
  pub least : (s : Start) → Contains starts s → base.oldest_multi ≤ s.multi → base.oldest_offset ≤ s.offset

-- the multixact stands at place i
abbrev pub IsPlaceOf : List Start → ℕ → ℕ → Type 0
IsPlaceOf starts multi i = (i < length starts) × HoldsAt (λ (s : Start). s.multi ≡ multi) starts i

-- it stands at no place
abbrev pub IsMissing : List Start → ℕ → Type 0
IsMissing starts multi = (k : ℕ) → k < length starts → HoldsAt (λ (s : Start). s.multi ≡ multi → ⊥) starts k

-- a raise of the oldest multixact to one of the base is to where that begins
abbrev pub IsWellBegun : ℕ → List Start → MultiEvent → Type 0
IsWellBegun first starts (events.Raise by multi offset) = multi < first → Contains starts (start_of multi offset)
IsWellBegun first starts e = Unit {0}

-- it isn't
abbrev pub IsAmiss : ℕ → List Start → MultiEvent → Type 0
IsAmiss first starts (events.Raise by multi offset) = (multi < first) × (Contains starts (start_of multi offset) → ⊥)
IsAmiss first starts e = ⊥
