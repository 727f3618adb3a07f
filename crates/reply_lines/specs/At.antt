-- Where a command's line stands in its life, and where it may read.
use Rattle.std.specs.Prelude.{◌≡◌, ℕ, ◌+◌, ◌-◌, ◌<◌, ◌≤◌, ◌==◌, ◌↔◌, IsTrue, List, ◌++◌, None, Some, length, slice_get, take}
use Rattle.std.specs.BTreeSet.{BTreeSet, contains}
use Rattle.std.specs.List.{flat_map, list_any}
use Rattle.std.specs.Ordering.{nat_cmp}
use Rattle.tx_events.specs.declared.event.By.{By}
use Rattle.tx_events.specs.declared.event.Event.{Event}
use Rattle.tx_events.specs.declared.multi.MultiEvent.{MultiEvent}
use Rattle.tx_events.specs.declared.record.Counters.{Counters}
use Rattle.tx_events.specs.declared.snapshot.SnapData.{SnapData}
use Rattle.tx_model.specs.declared.command.Command.{Command}
use Rattle.tx_model.specs.declared.reply.Reply.{Reply}
use Rattle.tx_model.specs.declared.report.LifeReport.{LifeReport}
use Rattle.tx_model.specs.declared.report.Line.{Line}
use Rattle.tx_model.specs.declared.report.Step.{Step}
use Rattle.tx_model.specs.Lines.{span_of, stance}
use Rattle.tx_events.specs.Snapshots.{snapshot_data}
use Rattle.tx_model.specs.Replies.{RoundSpan, taken_by}
use Rattle.tx_model.specs.Rounds.{lines_in}
use Rattle.tx_model.specs.Stance.{Stance}
use Rattle.life_law.specs.Refused.{by_standing}
use Rattle.standing_rules.specs.Sessions.{Lived}
use Rattle.report_law.specs.Kinds.{IsSnapAt}
use Rattle.report_law.specs.Places.{multi_span}
use Rattle.report_law.specs.Steps.{AreJudged, IsLawfulByHistory, IsLawfulReply, Judged, by_members}
use Rattle.command_events.specs.Reached.{IsReach}
use Rattle.multi_rules.specs.declared.reading.MultiReading.{MultiReading}
use Rattle.multi_rules.specs.MultiReadings.{IsMultiReading}
use Rattle.place_rules.specs.Readings.{IsReading}
use Rattle.place_columns.specs.Lined.{bys_of, lines_from}
use Rattle.reply_lines.specs.Known.{IsKnown}
use Rattle.reply_lines.specs.declared.known.Known.{Known}
use Rattle.reply_lines.specs.declared.rounds.RoundAt.{RoundAt}
use Rattle.reply_lines.specs.declared.reading.Asking.{Asking}

-- the line at this place of this step
pub record AtLine : Type 0 where
  pub j : Judged
  pub round : ℕ
  pub step : Step
  pub place : ℕ

abbrev pub rounds_at : AtLine → List Line
rounds_at at = flat_map lines_in (take at.round at.j.steps)

abbrev pub lines_at : AtLine → List Line
lines_at at = lines_in at.step

abbrev pub earlier_at : AtLine → List Line
earlier_at at = take at.place (lines_in at.step)

abbrev pub before_at : AtLine → List Line
before_at at = rounds_at at ++ earlier_at at

abbrev pub span_at : AtLine → RoundSpan
span_at at = span_of at.j.life.events (rounds_at at) (lines_at at)

abbrev pub multi_span_at : AtLine → RoundSpan
multi_span_at at = multi_span at.j.life.multis (rounds_at at) (lines_at at)

abbrev pub stance_at : AtLine → By → Stance
stance_at at by = stance at.j.life.events (before_at at) by.session

abbrev pub lived_at : AtLine → Lived
lived_at at = record { recs = at.j.life.recs; events = at.j.life.events; multis = at.j.life.multis; lines = before_at at }

-- it is this line, of this number
pub record StandsThere (at : AtLine) (number : ℕ) (l : Line) : Type 0 where
  pub told : slice_get at.j.steps at.round ≡ Some at.step
  pub stands : slice_get (lines_at at) at.place ≡ Some l
  pub number_is : number ≡ length (rounds_at at) + at.place

-- lines, and those before them
pub record Rounds : Type 0 where
  pub j : Judged
  pub rounds : List Line
  pub lines : List Line

-- where they stand in both histories, and whether what goes by these is judged
pub record IsRoundAt (j : Judged) (rounds lines : List Line) (k : Known) (r : RoundAt) : Type 0 where
  pub from : r.from ≡ (span_of j.life.events rounds lines).from
  pub to : r.to ≡ (span_of j.life.events rounds lines).to
  pub forward : r.from ≤ r.to
  pub multi_from : r.multi_from ≡ (multi_span j.life.multis rounds lines).from
  pub multi_to : r.multi_to ≡ (multi_span j.life.multis rounds lines).to
  pub multi_forward : r.multi_from ≤ r.multi_to
  pub reach : IsReach j.begun.counters j.life.events (span_of j.life.events rounds lines) r.reach
  pub judged : IsTrue r.judged ↔ AreJudged j rounds lines
  pub within : IsTrue r.judged → r.to ≤ length k.places.events
  pub multi_within : IsTrue r.judged → r.multi_to ≤ length k.multi_places.events

-- a command of this number, whose round is judged, and where it may read
pub record IsAsking (at : AtLine) (k : Known) (a : Asking) : Type 0 where
  pub known : IsKnown at.j k
  pub told : slice_get at.j.steps at.round ≡ Some at.step
  pub number : slice_get (bys_of (lines_from 0 at.j.steps)) a.number ≡ Some a.by
  pub judged : AreJudged at.j (rounds_at at) (lines_at at)
  pub from : a.from ≡ (span_at at).from
  pub to : a.to ≡ (span_at at).to
  pub few : a.by.session < 64
  pub multi_forward : a.multi_from ≤ a.multi_to
  pub within : a.to ≤ length k.places.events
  pub multi_from : a.multi_from ≡ (multi_span_at at).from
  pub multi_to : a.multi_to ≡ (multi_span_at at).to
  pub multi_within : a.multi_to ≤ length k.multi_places.events
  pub reading : IsReading k.places.events (span_at at) a.by a.reading
  pub multi_reading : IsMultiReading k.multi_places.events (multi_span_at at) a.by a.multis
  pub its : (i : ℕ) × (l : Line) × (slice_get (rounds_at at ++ lines_at at) i ≡ Some l) × (l.by ≡ a.by)

-- a line of a life of which this is known
pub record AtKnown : Type 0 where
  pub at : AtLine
  pub known : Known

-- the same of a command that asks
pub record Spot : Type 0 where
  pub at : AtLine
  pub known : Known
  pub asking : Asking

pub record IsSpot (s : Spot) (k : Known) (a : Asking) : Type 0 where
  pub known_is : s.known ≡ k
  pub asking_is : s.asking ≡ a
  pub asked : IsAsking s.at s.known s.asking

abbrev pub base_of : Spot → Counters
base_of s = s.at.j.begun.counters

abbrev pub history_of : Spot → List Event
history_of s = s.at.j.life.events

abbrev pub multis_of_life : Spot → List MultiEvent
multis_of_life s = s.at.j.life.multis

abbrev pub round_of : Spot → RoundSpan
round_of s = span_at s.at

abbrev pub multi_round_of : Spot → RoundSpan
multi_round_of s = multi_span_at s.at

-- a command that asks the snapshot that its session's command of this number took
pub record SnapSpot : Type 0 where
  pub spot : Spot
  pub number : ℕ

-- one that was answered with a snapshot's lists
pub record ListSpot : Type 0 where
  pub spot : Spot
  pub lists : SnapData

-- the command that took it stands in a line before, or earlier in the round
abbrev pub IsSnapAsked : SnapSpot → Type 0
IsSnapAsked s = (i : ℕ) × (l : Line) × (slice_get (rounds_at s.spot.at ++ lines_at s.spot.at) i ≡ Some l) × (l.by ≡ taken_by s.spot.asking.by s.number)

-- of this number
abbrev pub IsLineOfSnap : SnapSpot → ℕ → Type 0
IsLineOfSnap s n = slice_get (bys_of (lines_from 0 s.spot.at.j.steps)) n ≡ Some (taken_by s.spot.asking.by s.number)

-- a snapshot that the command took holds them
abbrev pub IsSnappedBy : ListSpot → Type 0
IsSnappedBy s = (place : ℕ) × IsSnapAt (history_of s.spot) s.spot.asking.by place × (s.lists ≡ snapshot_data (base_of s.spot).next (take place (history_of s.spot)))

-- the ids that the life has as committed from its start on
abbrev pub HasCommitted : Spot → BTreeSet ℕ → Type 0
HasCommitted s set = (x : ℕ) → contains nat_cmp set x ≡ list_any (λ z. z == x) s.at.j.begun.committed

-- these are exactly the places where the session could read before the command began
abbrev pub IsReadBefore : Spot → MultiReading → Type 0
IsReadBefore s r =
    IsMultiReading s.known.multi_places.events (multi_round_of s) (record { session = s.asking.by.session; command = s.asking.by.command - 1 }) r

-- a command's reply by the histories where it is judged
abbrev pub IsLawfulHere : Spot → Command → Reply → Type 0
IsLawfulHere s command reply = IsLawfulByHistory s.at.j (before_at s.at) (round_of s) (multi_round_of s) s.asking.by (stance_at s.at s.asking.by) command reply

-- and any reply
abbrev pub IsLawfulOf : AtLine → By → Command → Reply → Type 0
IsLawfulOf at by command reply =
    IsLawfulReply (AreJudged at.j (rounds_at at) (lines_at at)) at.j (before_at at) (span_at at) (multi_span_at at) by (stance_at at by) command reply

-- and one that is a refusal by how the session stands or by its members
abbrev pub IsLawfulUnless : AtLine → Line → Type 0
IsLawfulUnless at l = by_standing l.reply ≡ None → by_members l.reply ≡ None → IsLawfulOf at l.by l.command l.reply

-- what is judged is this report's life
pub record IsReportOf (j : Judged) (r : LifeReport) : Type 0 where
  pub life : r.life ≡ j.life
  pub steps : r.steps ≡ j.steps
