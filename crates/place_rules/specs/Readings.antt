-- The places at which a command may read.
use Rattle.std.specs.Prelude.{◌≡◌, ℕ, ◌+◌, ◌<◌, ◌≤◌, ◌↔◌, List, drop, take, length}
use Rattle.std.specs.List.{AllByRecursion}
use Rattle.tx_events.specs.declared.event.By.{By}
use Rattle.tx_events.specs.declared.event.Event.{Event}
use Rattle.tx_events.specs.Events.{by_of}
use Rattle.tx_model.specs.Replies.{RoundSpan}
use Rattle.report_law.specs.Places.{MayReadIn}
use Rattle.place_rules.specs.declared.reading.Reading.{Reading}

abbrev pub span_of : ℕ → ℕ → RoundSpan
span_of from to = record { from = from; to = to }

-- at a place of its round the command may find the horizon: behind its session's earlier events, or at the last of these
pub record MayFindHorizon (h : List Event) (round : RoundSpan) (by : By) (p : ℕ) : Type 0 where
  pub from_start : round.from ≤ p
  pub in_round : p ≤ round.to
  pub behind : AllByRecursion (λ e. (by_of e).session ≡ by.session → by.command < (by_of e).command) (drop (p + 1) (take round.to h))

-- these are exactly the places
pub record IsReading (h : List Event) (round : RoundSpan) (by : By) (r : Reading) : Type 0 where
  pub to : r.to ≡ round.to
  pub read : (p : ℕ) → MayReadIn h round by p ↔ ((r.from ≤ p) × (p ≤ r.to))
  pub early : (p : ℕ) → MayFindHorizon h round by p ↔ ((r.early ≤ p) × (p ≤ r.to))

-- a command, and where its round stands
pub record Asked : Type 0 where
  pub round : RoundSpan
  pub by : By
