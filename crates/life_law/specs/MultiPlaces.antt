-- Where the commands of a life stand among its multixact events, and where they may read in both histories.
use Rattle.std.specs.Prelude.{◌≡◌, ℕ, ◌<◌, ◌≤◌, ◌++◌, Bool, List, Option, None, Some, drop, take, slice_get}
use Rattle.std.specs.List.{AllByRecursion, count_by, filter, list_any}
use Rattle.tx_events.specs.declared.event.By.{By}
use Rattle.tx_events.specs.declared.event.Event.{Event}
use Rattle.tx_events.specs.declared.event.Event.TheVariants as events
use Rattle.tx_events.specs.declared.multi.Member.{Member}
use Rattle.tx_events.specs.declared.multi.MultiEvent.{MultiEvent}
use Rattle.tx_events.specs.declared.multi.MultiEvent.TheVariants as multis
use Rattle.tx_events.specs.declared.record.Rec.{Rec}
use Rattle.tx_events.specs.declared.record.Rec.TheVariants as records
use Rattle.tx_events.specs.Events.{by_of, same_by}
use Rattle.tx_events.specs.Multis.{multi_by}
use Rattle.tx_model.specs.declared.report.Line.{Line}
use Rattle.tx_model.specs.Replies.{RoundSpan}

-- a multixact that the log has recorded: its number, where its members begin, and these
abbrev pub Recorded : Type 0
Recorded = ℕ × ℕ × List Member

abbrev pub recorded_by : Rec → Option Recorded
recorded_by (records.Multi multi offset members) = Some (multi, offset, members)
recorded_by _ = None

-- the multixact event is of one of these lines
abbrev pub has_multi_line : List Line → MultiEvent → Bool
has_multi_line lines e = list_any (λ l. same_by l.by (multi_by e)) lines

-- the multixact events of one command, in order
abbrev pub multis_of : By → List MultiEvent → List MultiEvent
multis_of by h = filter (λ e. same_by (multi_by e) by) h

-- where a round stands among the multixact events
abbrev pub multi_span : List MultiEvent → List Line → List Line → RoundSpan
multi_span h before lines = record { from = count_by (has_multi_line before) h; to = count_by (has_multi_line (before ++ lines)) h }

-- the multixact events of the rounds with these lines, which stand first
abbrev pub multis_behind : List MultiEvent → List Line → List MultiEvent
multis_behind h before = take (count_by (has_multi_line before) h) h

-- at a place of the multixact events the command may read: within its round, and behind the session's earlier events
pub record MayReadMultis (h : List MultiEvent) (round : RoundSpan) (by : By) (p : ℕ) : Type 0 where
  pub not_before : round.from ≤ p
  pub not_past : p ≤ round.to
  pub behind : AllByRecursion (λ e. (multi_by e).session ≡ by.session → by.command < (multi_by e).command) (drop p (take round.to h))

-- and so at a place of the history. Nothing but the round bounds it from above, and what stands behind the round isn't
-- asked
pub record MayReadIn (h : List Event) (round : RoundSpan) (by : By) (p : ℕ) : Type 0 where
  pub not_before : round.from ≤ p
  pub not_past : p ≤ round.to
  pub behind : AllByRecursion (λ e. (by_of e).session ≡ by.session → by.command < (by_of e).command) (drop p (take round.to h))

-- where the command takes its snapshot, whichever name the event says
abbrev pub IsSnapAt : List Event → By → ℕ → Type 0
IsSnapAt h by place = (name : List ℕ) × (slice_get h place ≡ Some (events.Snap name by))

-- where it pins a multixact, whichever
abbrev pub IsPinAt : List MultiEvent → By → ℕ → Type 0
IsPinAt h by place = (multi : ℕ) × (slice_get h place ≡ Some (multis.Hold by multi))
