-- What a command does at a place, and where it may read.
use Rattle.std.specs.Prelude.{◌≡◌, ℕ, ◌≤◌, ◌↔◌, ◌⊎◌, List, Some, slice_get, take}
use Rattle.tx_events.specs.declared.event.By.{By}
use Rattle.tx_events.specs.declared.event.Event.{Event}
use Rattle.tx_events.specs.declared.multi.Member.{Member}
use Rattle.tx_events.specs.declared.multi.MultiEvent.{MultiEvent}
use Rattle.tx_events.specs.declared.multi.MultiEvent.TheVariants as multis
use Rattle.tx_events.specs.declared.record.Counters.{Counters}
use Rattle.tx_events.specs.Limits.{multi_warn_limit}
use Rattle.tx_events.specs.Multis.{next_made, oldest_multi}
use Rattle.tx_model.specs.Replies.{RoundSpan}
use Rattle.report_law.specs.Kinds.{IsPinAt}
use Rattle.report_law.specs.Places.{MayReadMultis}

-- a life's histories and a command
pub record Owner : Type 0 where
  pub base : Counters
  pub events : List Event
  pub all : List MultiEvent
  pub by : By

-- a command, and where its round stands
pub record MultiAsked : Type 0 where
  pub round : RoundSpan
  pub by : By

-- these are exactly the places where the command may read
abbrev pub AreReadMultis : List MultiEvent → RoundSpan → By → ℕ → ℕ → Type 0
AreReadMultis h round by from to = (p : ℕ) → MayReadMultis h round by p ↔ ((from ≤ p) × (p ≤ to))

-- it pins there, or raises there while the multixact is the next one
abbrev pub PinsOrRaises : Counters → List MultiEvent → By → ℕ → ℕ → Type 0
PinsOrRaises base all by multi place =
    IsPinAt all by place
    ⊎ ((raised offset : ℕ) × (slice_get all place ≡ Some (multis.Raise by raised offset)) × (multi ≡ next_made base.multi (take place all)))

-- it is given the multixact there, at or past the warn limit
abbrev pub GivesLate : Counters → List MultiEvent → By → ℕ → ℕ → Type 0
GivesLate base all by multi place =
    (offset : ℕ) × (members : List Member) × (slice_get all place ≡ Some (multis.Gen by multi offset members))
    × (multi_warn_limit (oldest_multi base.oldest_multi (take place all)) ≤ multi)
