-- The places at which a command may read the multixacts.
use Rattle.std.specs.Prelude.{◌≡◌, ℕ, ◌≤◌, ◌↔◌, List}
use Rattle.tx_events.specs.declared.event.By.{By}
use Rattle.tx_events.specs.declared.multi.MultiEvent.{MultiEvent}
use Rattle.tx_model.specs.Replies.{RoundSpan}
use Rattle.report_law.specs.Places.{MayReadMultis}
use Rattle.multi_rules.specs.declared.reading.MultiReading.{MultiReading}

abbrev pub span_of : ℕ → ℕ → RoundSpan
span_of from to = record { from = from; to = to }

-- these are exactly the places
pub record IsMultiReading (h : List MultiEvent) (round : RoundSpan) (by : By) (r : MultiReading) : Type 0 where
  pub to : r.to ≡ round.to
  pub read : (p : ℕ) → MayReadMultis h round by p ↔ ((r.from ≤ p) × (p ≤ r.to))

-- a command, and where its round stands
pub record MultiAsked : Type 0 where
  pub round : RoundSpan
  pub by : By
