-- The ids that a member may mean, by the two ends of its round.
use Rattle.std.specs.Prelude.{◌≡◌, ℕ, ◌-◌, ◌^◌, ◌<◌, ◌≤◌, List, take}
use Rattle.tx_events.specs.Ids.{low_half}
use Rattle.tx_events.specs.declared.event.Event.{Event}
use Rattle.tx_events.specs.declared.multi.Member.{Member}
use Rattle.tx_events.specs.declared.multi.MultiEvent.{MultiEvent}
use Rattle.tx_events.specs.declared.record.Counters.{Counters}
use Rattle.tx_events.specs.History.{next_given}
use Rattle.tx_model.specs.declared.command.Pair.{Pair}
use Rattle.tx_model.specs.Replies.{RoundSpan}
use Rattle.report_law.specs.Steps.{Judged}
use Rattle.command_events.specs.declared.reach.Reach.{Reach}

abbrev pub span : ℕ → ℕ → RoundSpan
span from to = record { from = from; to = to }

-- a life's histories
pub record Lists : Type 0 where
  pub base : Counters
  pub events : List Event
  pub multis : List MultiEvent

-- a life as it is judged, and where a round of it stands among the events
pub record JudgedRound : Type 0 where
  pub judged : Judged
  pub round : RoundSpan

-- 2^31 below the next id where the round begins, and the next id where it ends
pub record IsReach (base : Counters) (h : List Event) (round : RoundSpan) (r : Reach) : Type 0 where
  pub forward : round.from ≤ round.to
  pub least : r.least ≡ next_given base.next (take round.from h) - 2 ^ 31
  pub end : r.end ≡ next_given base.next (take round.to h)

-- the id has this stored half, and is one of the reach
abbrev pub IsMeant : Reach → ℕ → ℕ → Type 0
IsMeant r x id = (low_half id ≡ low_half x) × (r.least ≤ id) × (id < r.end)

-- the pair has such a stored half that one may be meant
abbrev pub MayBeMember : Reach → Pair → Type 0
MayBeMember r pair = (3 ≤ pair.x.number) × ((id : ℕ) × IsMeant r pair.x.number id)

-- this one is
pub record IsMember (r : Reach) (pair : Pair) (member : Member) : Type 0 where
  pub mode : member.mode ≡ pair.mode
  pub normal : 3 ≤ pair.x.number
  pub meant : IsMeant r pair.x.number member.id
