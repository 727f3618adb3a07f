-- Where multixacts are given, and which of them weren't recorded.
use Rattle.std.specs.Prelude.{◌≡◌, ◌≢◌, ℕ, ◌<◌, ◌≤◌, ◌↔◌, ◌⊎◌, ◌==◌, ◌&&◌, Bool, false, List, Some, Contains, map, slice_get, take}
use Rattle.tx_events.specs.declared.event.By.{By}
use Rattle.tx_events.specs.declared.event.Event.{Event}
use Rattle.tx_events.specs.declared.multi.Member.{Member}
use Rattle.tx_events.specs.declared.multi.MultiEvent.{MultiEvent}
use Rattle.tx_events.specs.declared.multi.MultiEvent.TheVariants as multis
use Rattle.tx_events.specs.declared.record.Counters.{Counters}
use Rattle.tx_events.specs.IdLists.{Ascending}
use Rattle.tx_events.specs.Multis.{multi_by, next_made}
use Rattle.tx_model.specs.Replies.{RoundSpan}
use Rattle.report_law.specs.Begun.{Recorded}
use Rattle.history_places.specs.declared.start.Start.{Start}
use Rattle.history_places.specs.Starts.{IsPlaceOf}

-- the event there gives the multixact
abbrev pub IsGenAt : List MultiEvent → ℕ → ℕ → Type 0
IsGenAt h multi p = (giver : By) × (offset : ℕ) × (members : List Member) × (slice_get h p ≡ Some (multis.Gen giver multi offset members))

-- and no other one does
abbrev pub IsOnlyGenAt : List MultiEvent → ℕ → ℕ → Type 0
IsOnlyGenAt h multi p = IsGenAt h multi p × ((q : ℕ) → IsGenAt h multi q → q ≡ p)

abbrev pub NoGen : List MultiEvent → ℕ → Type 0
NoGen h multi = (p : ℕ) → IsGenAt h multi p → ⊥

abbrev pub gives : ℕ → MultiEvent → Bool
gives x (multis.Gen by multi offset members) = multi == x
gives x e = false

-- it is given to a command that was answered so
abbrev pub is_ok_gen : (By → Bool) → ℕ → MultiEvent → Bool
is_ok_gen ok x e = ok (multi_by e) && gives x e

-- a life, a command of it and where its round stands; what is recorded of the base; and which commands were answered `ok`
-- with a multixact
pub record Waiting : Type 0 where
  pub base : Counters
  pub events : List Event
  pub all : List MultiEvent
  pub recorded : List Recorded
  pub ok : By → Bool
  pub round : RoundSpan
  pub by : By

-- the command pins there, and the multixact is below the next one
abbrev pub IsAboveAt : Counters → List MultiEvent → By → ℕ → ℕ → Type 0
IsAboveAt base all by multi place = (asked : ℕ) × (slice_get all place ≡ Some (multis.Hold by asked)) × (multi < next_made base.multi (take place all))

abbrev pub IsRecordedIn : List Start → ℕ → Type 0
IsRecordedIn starts multi = (k : ℕ) × IsPlaceOf starts multi k

-- the multixacts of the base that are recorded, in the order of their numbers
pub record AreStartsOf (recorded : List Recorded) (starts : List Start) : Type 0 where
  pub order : Ascending (map (λ (s : Start). s.multi) starts)
  pub each : (multi : ℕ) → IsRecordedIn starts multi ↔ ((offset : ℕ) × (members : List Member) × Contains recorded (multi, offset, members))

-- each command that was given the multixact is of another session, in the round, or wasn't answered so
abbrev pub WaitsIn : (By → Bool) → ℕ → ℕ → By → List MultiEvent → ℕ → Type 0
WaitsIn ok from to by h multi = (place offset : ℕ) (members : List Member) (giver : By) → slice_get h place ≡ Some (multis.Gen giver multi offset members)
    → ((giver.session ≢ by.session) × (from ≤ place) × (place < to)) ⊎ (ok giver ≡ false)
