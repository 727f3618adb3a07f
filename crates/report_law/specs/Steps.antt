-- The rules of a report's reply lines: those of commands, of checkpoints and of dumps.
use Rattle.std.specs.Prelude.{◌≡◌, ℕ, ◌+◌, ◌-◌, ◌<◌, ◌≤◌, ◌↔◌, ◌⊎◌, IsTrue, Bool, true, false, List, ◌++◌, Option, Some, None, IfSome, length, take, drop, Contains}
use Rattle.std.specs.List.{AllByRecursion, count_by, flat_map}
use Rattle.tx_events.specs.Nearest.{near_id}
use Rattle.tx_events.specs.declared.event.By.{By}
use Rattle.tx_events.specs.declared.event.Event.{Event}
use Rattle.tx_events.specs.declared.multi.MultiEvent.{MultiEvent}
use Rattle.tx_events.specs.declared.multi.MultiEvent.TheVariants as multi_events
use Rattle.tx_events.specs.declared.multi.Member.{Member}
use Rattle.tx_events.specs.declared.record.Counters.{Counters}
use Rattle.tx_events.specs.declared.record.Rec.{Rec}
use Rattle.tx_events.specs.declared.record.Rec.TheVariants as records
use Rattle.tx_events.specs.declared.refusal.Refusal.{Refusal}
use Rattle.tx_events.specs.declared.refusal.Refusal.TheVariants as refusals
use Rattle.tx_events.specs.Events.{by_of, events_of}
use Rattle.tx_events.specs.History.{next_given}
use Rattle.tx_events.specs.Horizon.{oldest_id, oldest_xmin}
use Rattle.tx_events.specs.Limits.{stop_limit}
use Rattle.tx_events.specs.Snapshots.{snapshot_data, snapshot_xmax}
use Rattle.tx_events.specs.Visible.{is_visible}
use Rattle.tx_model.specs.declared.command.Command.{Command}
use Rattle.tx_model.specs.declared.command.Command.TheVariants as commands
use Rattle.tx_model.specs.declared.reply.Reply.{Reply}
use Rattle.tx_model.specs.declared.reply.Reply.TheVariants as replies
use Rattle.tx_model.specs.declared.reply.Status.{Status}
use Rattle.tx_model.specs.declared.report.Life.{Life}
use Rattle.tx_model.specs.declared.report.Line.{Line}
use Rattle.tx_model.specs.declared.report.Step.{Step}
use Rattle.tx_model.specs.CommandEvents.{HasEvents}
use Rattle.tx_model.specs.Lines.{span_of, stance}
use Rattle.tx_model.specs.Replies.{MayReply, RoundSpan, seen_id, special_status, status_after, taken_by}
use Rattle.tx_model.specs.Rounds.{lines_in}
use Rattle.tx_model.specs.Stance.{Stance, lacking, snap_of, top_level}
use Rattle.life_law.specs.DidCommit.{IsRecorded, special_did}
use Rattle.life_law.specs.Pending.{pending}
use Rattle.life_law.specs.Refused.{by_standing, refused_by}
pub use Rattle.life_law.specs.Refused.{by_members, is_by_members, is_updater_pair, refused_by_members}
pub use Rattle.life_law.specs.LawfulMultis.{is_ok_trim}
pub use Rattle.life_law.specs.MultiStanding.{gave_multi}
use Rattle.report_law.specs.Answers.{AreLogFaults, HasNoRoom, can_append, can_ask, can_flush, can_lack_memory, goes_by_places, longest_record}
use Rattle.report_law.specs.Begun.{Begun}
use Rattle.report_law.specs.MultiLines.{AreVerdicts, HasMultiEvents, IsHeldBack, IsMemberStop, IsMultiBackward, IsMultiFuture, IsMultiStop, IsMultiTooOld, IsMultiWarned, IsNotGiven, IsNotYet, IsOldMember, IsPinnedOrNext, MayCarry, of_records}
use Rattle.report_law.specs.Kinds.{BeginAsTold, BeginAsToldMultis, IsAskAt, IsSnapAt}
use Rattle.report_law.specs.Places.{AreMultisJudged, IsJudged, MayReadIn, multi_span, multis_of}

-- A life as it is judged: what it begins from, its report and all its lines.
pub record Judged : Type 0 where
  pub begun : Begun
  pub life : Life
  pub steps : List Step

abbrev pub lines_of : Judged → List Line
lines_of j = flat_map lines_in j.steps

-- what goes by the histories is judged where both are lawful up to the end of these rounds
abbrev pub AreJudged : Judged → List Line → List Line → Type 0
AreJudged j before lines =
    IsJudged j.begun.counters j.life.events before lines
    × AreMultisJudged j.begun.counters (of_records j.begun.counters j.begun.recorded) j.life.multis before lines

-- a multixact's record that is no event's, and so unlawful by itself
pub record IsStrayMulti (j : Judged) : Type 0 where
  pub multi : ℕ
  pub offset : ℕ
  pub members : List Member
  pub stands : Contains j.life.recs (records.Multi multi offset members)
  pub ungiven : (by : By) → Contains j.life.multis (multi_events.Gen by multi offset members) → ⊥

-- ---- by the history, at some place where the command may read

pub record IsStoppedAt (base : Counters) (h : List Event) (round : RoundSpan) (by : By) (next stop : ℕ) : Type 0 where
  pub place : ℕ
  pub read : MayReadIn h round by place
  pub next_is : next ≡ next_given base.next (take place h)
  pub stop_is : stop ≡ stop_limit (oldest_id base.oldest (take place h))
  pub reached : stop ≤ next

pub record IsBackwardAt (base : Counters) (h : List Event) (round : RoundSpan) (by : By) (oldest now : ℕ) : Type 0 where
  pub place : ℕ
  pub read : MayReadIn h round by place
  pub now_is : now ≡ oldest_id base.oldest (take place h)
  pub older : oldest < now

pub record IsTooNewAt (base : Counters) (h : List Event) (round : RoundSpan) (by : By) (oldest limit : ℕ) : Type 0 where
  pub place : ℕ
  pub read : MayReadIn h round by place
  pub limit_is : limit ≡ oldest_xmin base.next (take place h)
  pub past : limit < oldest

-- a horizon may be that of the place of the session's latest event, before that event itself
pub record IsHorizonAt (base : Counters) (h : List Event) (round : RoundSpan) (by : By) (xmin : ℕ) : Type 0 where
  pub place : ℕ
  pub from_start : round.from ≤ place
  pub in_round : place ≤ round.to
  pub behind : AllByRecursion (λ e. (by_of e).session ≡ by.session → by.command < (by_of e).command) (drop (place + 1) (take round.to h))
  pub xmin_is : xmin ≡ oldest_xmin base.next (take place h)

-- the snapshot of the session's command `number` shows the id that the stored half means to it
pub record IsSeen (base : Counters) (committed : List ℕ) (h : List Event) (by : By) (number x : ℕ) (visible : Bool) : Type 0 where
  pub place : ℕ
  pub taken : IsSnapAt h (taken_by by number) place
  pub id : ℕ
  pub near : seen_id (snapshot_xmax base.next (take place h)) x ≡ Some id
  pub exact : visible ≡ is_visible committed (take place h) id

pub record IsTooOldFor (base : Counters) (h : List Event) (round : RoundSpan) (by : By) (number x oldest : ℕ) : Type 0 where
  pub normal : 3 ≤ x
  pub place : ℕ
  pub taken : IsSnapAt h (taken_by by number) place
  pub older : IfSome (near_id (snapshot_xmax base.next (take place h)) x) (λ id. id < oldest)
  pub carried : MayCarry base h round oldest

-- how the id stood where the command asked
pub record IsStatusAt (base : Counters) (committed : List ℕ) (h : List Event) (by : By) (x : ℕ) (status : Status) : Type 0 where
  pub place : ℕ
  pub asked : IsAskAt h by place
  pub young : oldest_id base.oldest (take place h) ≤ x
  pub given : x < next_given base.next (take place h)
  pub exact : status ≡ status_after committed (take place h) x

-- it wasn't given there
pub record IsFutureAt (base : Counters) (h : List Event) (by : By) (x next : ℕ) : Type 0 where
  pub place : ℕ
  pub asked : IsAskAt h by place
  pub next_is : next ≡ next_given base.next (take place h)
  pub past : next ≤ x

-- What is told of whether an id committed: yes of one that the base has or a commit record of the life names, no of one
-- that isn't visible at some place where the command may read. The id is the one near the next one at such a place.
pub record IsDidAt (base : Counters) (committed : List ℕ) (h : List Event) (recs : List Rec) (round : RoundSpan) (by : By) (x : ℕ) (answer : Bool) : Type 0 where
  pub place : ℕ
  pub read : MayReadIn h round by place
  pub id : ℕ
  pub near : near_id (next_given base.next (take place h)) x ≡ Some id
  pub for_yes : answer ≡ true → Contains committed id ⊎ IsRecorded recs id
  pub for_no : answer ≡ false → (at : ℕ) × MayReadIn h round by at × (is_visible committed (take at h) id ≡ false)

pub record IsDidTooOld (base : Counters) (h : List Event) (round : RoundSpan) (by : By) (x oldest : ℕ) : Type 0 where
  pub normal : 3 ≤ x
  pub place : ℕ
  pub read : MayReadIn h round by place
  pub older : IfSome (near_id (next_given base.next (take place h)) x) (λ id. id < oldest)
  pub carried : MayCarry base h round oldest

-- how many truncations are below the flushed number
abbrev pub is_truncation : Rec → Bool
is_truncation (records.Truncate oldest multi offset) = true
is_truncation rec = false

abbrev pub flushed_recs : Life → List Rec
flushed_recs life = take (life.flushed - life.from) life.recs

-- ---- a command's reply

-- one that goes by the two histories
abbrev pub IsLawfulByHistory : Judged → List Line → RoundSpan → RoundSpan → By → Stance → Command → Reply → Type 0
IsLawfulByHistory j before round multi_round by s commands.Write (replies.Refused (refusals.Stop next stop)) =
    (1 ≤ lacking s.levels) × IsStoppedAt j.begun.counters j.life.events round by next stop
IsLawfulByHistory j before round multi_round by s (commands.Snap name) (replies.Snapped lists) =
    (place : ℕ) × IsSnapAt j.life.events by place × (lists ≡ snapshot_data j.begun.counters.next (take place j.life.events))
IsLawfulByHistory j before round multi_round by s commands.Horizon (replies.Horizon xmin) = IsHorizonAt j.begun.counters j.life.events round by xmin
IsLawfulByHistory j before round multi_round by s (commands.See name x) (replies.Seen visible) =
    (number : ℕ) × (snap_of name s ≡ Some number) × IsSeen j.begun.counters j.begun.committed j.life.events by number x.number visible
IsLawfulByHistory j before round multi_round by s (commands.See name x) (replies.Refused (refusals.TooOld oldest)) =
    (number : ℕ) × (snap_of name s ≡ Some number) × IsTooOldFor j.begun.counters j.life.events round by number x.number oldest
IsLawfulByHistory j before round multi_round by s (commands.Status x) (replies.Known status) =
    (x < 3 → status ≡ special_status x) × (3 ≤ x → IsStatusAt j.begun.counters j.begun.committed j.life.events by x status)
IsLawfulByHistory j before round multi_round by s (commands.Status x) (replies.Refused (refusals.Future next)) =
    (3 ≤ x) × IsFutureAt j.begun.counters j.life.events by x next
IsLawfulByHistory j before round multi_round by s (commands.Status x) (replies.Refused (refusals.TooOld oldest)) =
    (3 ≤ x) × (x < oldest) × MayCarry j.begun.counters j.life.events round oldest
IsLawfulByHistory j before round multi_round by s (commands.Did x) (replies.Did answer) =
    (x.number < 3 → answer ≡ special_did x.number)
    × (3 ≤ x.number → IsDidAt j.begun.counters j.begun.committed j.life.events j.life.recs round by x.number answer)
IsLawfulByHistory j before round multi_round by s (commands.Did x) (replies.Refused (refusals.TooOld oldest)) =
    IsDidTooOld j.begun.counters j.life.events round by x.number oldest
IsLawfulByHistory j before round multi_round by s (commands.Freeze oldest) (replies.Refused (refusals.Backward now)) =
    IsBackwardAt j.begun.counters j.life.events round by oldest now
IsLawfulByHistory j before round multi_round by s (commands.Freeze oldest) (replies.Refused (refusals.TooNew limit)) =
    IsTooNewAt j.begun.counters j.life.events round by oldest limit
IsLawfulByHistory j before round multi_round by s (commands.Multi pairs) (replies.Multi multi offset warn) =
    IsTrue warn ↔ IsMultiWarned j.begun.counters j.life.multis by multi
IsLawfulByHistory j before round multi_round by s (commands.Multi pairs) (replies.Refused (refusals.NotGiven x)) =
    IsNotGiven j.begun.counters j.life.events round by pairs x.number
IsLawfulByHistory j before round multi_round by s (commands.Multi pairs) (replies.Refused (refusals.TooOld oldest)) =
    IsOldMember j.begun.counters j.life.events round by pairs oldest
IsLawfulByHistory j before round multi_round by s (commands.Multi pairs) (replies.Refused (refusals.MultiStop next stop)) =
    IsMultiStop j.begun.counters j.life.multis multi_round by next stop
IsLawfulByHistory j before round multi_round by s (commands.Multi pairs) (replies.Refused (refusals.MemberStop next stop)) =
    IsMemberStop j.begun.counters j.life.multis multi_round by (length pairs) next stop
IsLawfulByHistory j before round multi_round by s (commands.SeeMulti name m) (replies.Verdicts verdicts) =
    (number : ℕ) × (snap_of name s ≡ Some number)
    × AreVerdicts j.begun.counters j.begun.committed j.begun.recorded j.life.events j.life.multis round by number verdicts
IsLawfulByHistory j before round multi_round by s (commands.SeeMulti name m) (replies.Refused (refusals.NotYet multi)) =
    IsNotYet j.begun.counters j.begun.recorded j.life.multis multi_round (gave_multi (lines_of j)) by multi
IsLawfulByHistory j before round multi_round by s (commands.SeeMulti name m) (replies.Refused (refusals.MultiTooOld oldest)) =
    IsMultiTooOld j.begun.counters j.life.multis multi_round by m.number oldest
IsLawfulByHistory j before round multi_round by s (commands.SeeMulti name m) (replies.Refused (refusals.MultiFuture next)) =
    IsMultiFuture j.begun.counters j.life.multis multi_round by m.number next
IsLawfulByHistory j before round multi_round by s (commands.MultiFreeze multi) replies.Done =
    IsPinnedOrNext j.begun.counters j.life.multis by multi
IsLawfulByHistory j before round multi_round by s (commands.MultiFreeze multi) (replies.Refused (refusals.Backward now)) =
    IsMultiBackward j.begun.counters j.life.multis multi_round by multi now
IsLawfulByHistory j before round multi_round by s (commands.MultiFreeze multi) (replies.Refused (refusals.Held limit)) =
    IsHeldBack j.begun.counters j.life.multis multi_round by multi limit
IsLawfulByHistory j before round multi_round by s (commands.MultiFreeze multi) (replies.Refused (refusals.NotYet next)) =
    IsNotYet j.begun.counters j.begun.recorded j.life.multis multi_round (gave_multi (lines_of j)) by next
IsLawfulByHistory j before round multi_round by s command reply = MayReply j.begun.counters j.begun.committed j.life.events round by s command reply

-- Want of memory may come before any other refusal.
abbrev pub unless_memory : Reply → Option Refusal → Option Refusal
unless_memory (replies.Refused refusals.Memory) refusal = None
unless_memory reply refusal = refusal

-- What the log has of a command that was answered `ok`: a commit's record and as many truncations as trims so far, below
-- the flushed number; a multixact's record, where none is a stray one.
abbrev pub IsLogged : Judged → List Line → Stance → Command → Reply → Type 0
IsLogged j before s commands.Commit replies.Done =
    IfSome (top_level s.levels) (λ top. (subs : List ℕ) × Contains (flushed_recs j.life) (records.Commit top subs))
IsLogged j before s commands.Trim replies.Done = count_by is_ok_trim before < count_by is_truncation (flushed_recs j.life)
IsLogged j before s (commands.Multi pairs) (replies.Multi multi offset warn) =
    ((at : ℕ) × (members : List Member) × Contains j.life.recs (records.Multi multi at members)) ⊎ IsStrayMulti j
IsLogged j before s command reply = Unit {0}

-- a reply that neither a session's standing nor its argument alone brings; what goes by places of the histories is judged
-- where these are lawful up to the end of the round
abbrev pub IsLawfulReply : Type 0 → Judged → List Line → RoundSpan → RoundSpan → By → Stance → Command → Reply → Type 0
IsLawfulReply judged j before round multi_round by s command (replies.Refused refusals.Memory) = IsTrue (can_lack_memory command)
IsLawfulReply judged j before round multi_round by s command (replies.Refused (refusals.DiskFault lock)) = IsTrue (can_ask command lock)
IsLawfulReply judged j before round multi_round by s command (replies.Refused refusals.LogFault) = IsTrue (can_flush command)
IsLawfulReply judged j before round multi_round by s commands.Commit (replies.Refused refusals.Full) =
    judged → HasNoRoom j.life (longest_record by (take round.to j.life.events) commands.Commit)
IsLawfulReply judged j before round multi_round by s command (replies.Refused refusals.Full) =
    IsTrue (can_append command) × HasNoRoom j.life (longest_record by j.life.events command)
IsLawfulReply judged j before round multi_round by s command (replies.Refused (refusals.LogDown at)) =
    IsTrue (can_append command) × (at ≡ j.life.flushed) × AreLogFaults (lines_of j) j.steps
IsLawfulReply judged j before round multi_round by s commands.Trim replies.Done = Unit {0}
IsLawfulReply judged j before round multi_round by s command reply =
    (IsTrue (goes_by_places command reply) → judged) → IsLawfulByHistory j before round multi_round by s command reply

-- These events are those of the command's reply, and the command's begin with such. One that comes behind them, or has
-- other words, is unlawful by itself.
abbrev pub HasFirst : Judged → List Line → Line → List Event → Type 0
HasFirst j before l es =
    HasEvents l.by (stance j.life.events before l.by.session) l.command l.reply es × BeginAsTold es (events_of l.by j.life.events)

abbrev pub HasFirstMultis : Judged → RoundSpan → Line → List MultiEvent → Type 0
HasFirstMultis j round l es =
    HasMultiEvents j.begun.counters j.life.events round j.life.multis l.by l.command l.reply es
    × BeginAsToldMultis es (multis_of l.by j.life.multis)

-- A command's line, behind these lines of its life and of its round: it has its events, is refused by how its session
-- stands exactly where that stands so, and its reply is lawful.
pub record IsLawfulCommand (j : Judged) (rounds lines earlier : List Line) (l : Line) : Type 0 where
  pub events : (es : List Event) × HasFirst j (rounds ++ earlier) l es
  pub multis : (es : List MultiEvent) × HasFirstMultis j (span_of j.life.events rounds lines) l es
  pub standing : by_standing l.reply
      ≡ unless_memory l.reply (refused_by l.command (stance j.life.events (rounds ++ earlier) l.by.session) (pending j.life.recs j.life.events (rounds ++ earlier) l.by.session))
  pub members : by_members l.reply ≡ unless_memory l.reply (refused_by_members l.command)
  pub reply : by_standing l.reply ≡ None → by_members l.reply ≡ None
      → IsLawfulReply (AreJudged j rounds lines) j (rounds ++ earlier) (span_of j.life.events rounds lines) (multi_span j.life.multis rounds lines) l.by (stance j.life.events (rounds ++ earlier) l.by.session) l.command l.reply
  pub logged : IsLogged j (rounds ++ earlier) (stance j.life.events (rounds ++ earlier) l.by.session) l.command l.reply
