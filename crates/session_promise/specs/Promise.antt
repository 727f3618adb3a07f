-- What a session promises of its own lines, whatever other sessions do between its critical sections.
use Rattle.std.specs.Prelude.{◌≡◌, ℕ, ◌+◌, ◌<◌, ◌≤◌, Bool, true, List, [], ◌∷◌, ◌++◌, Contains, IsTrue, None, Some, drop, length, slice_get}
use Rattle.std.specs.List.{AllByRecursion, count_by}
use Rattle.notes.specs.Lists.{Grows, Knows, at, own}
use Rattle.tx_events.specs.declared.event.By.{By}
use Rattle.tx_events.specs.declared.event.Event.{Event}
use Rattle.tx_events.specs.declared.multi.Member.{Member}
use Rattle.tx_events.specs.declared.multi.MultiEvent.{MultiEvent}
use Rattle.tx_events.specs.declared.multi.MultiEvent.TheVariants as multis
use Rattle.tx_events.specs.declared.record.Rec.{Rec}
use Rattle.tx_events.specs.declared.record.Rec.TheVariants as records
use Rattle.tx_events.specs.declared.refusal.Refusal.TheVariants as refusals
use Rattle.tx_events.specs.Events.{by_of, events_of, given_to}
use Rattle.tx_events.specs.Multis.{made, multi_by}
use Rattle.tx_model.specs.declared.command.Command.{Command}
use Rattle.tx_model.specs.declared.command.Command.TheVariants as commands
use Rattle.tx_model.specs.declared.reply.Reply.{Reply}
use Rattle.tx_model.specs.declared.reply.Reply.TheVariants as replies
use Rattle.tx_model.specs.declared.report.Line.{Line}
use Rattle.tx_model.specs.CommandEvents.{HasEvents}
use Rattle.tx_model.specs.Lines.{has_line, stance}
use Rattle.tx_model.specs.Replies.{RoundSpan}
use Rattle.tx_model.specs.Stance.{Stance, lacking}
use Rattle.tx_events.specs.Places.{EachPlace}
use Rattle.life_law.specs.Commands.{makes_level, makes_multi}
use Rattle.life_law.specs.LawfulMultis.{is_ok_trim}
use Rattle.life_law.specs.MultiLines.{HasMultiEvents}
use Rattle.life_law.specs.MultiPlaces.{has_multi_line, multis_of}
use Rattle.life_law.specs.MultiStanding.{unfinished}
use Rattle.life_law.specs.Pending.{pending}
use Rattle.life_law.specs.Refused.{by_members, by_standing, refused_by, refused_by_members}
use Rattle.life_law.specs.Replies.{is_told_verdict}
use Rattle.tx_core.specs.declared.entry.Entry.{Entry}
use Rattle.tx_core.specs.declared.entry.Kind.TheVariants as kinds
use Rattle.tx_core.specs.declared.entry.LogCall.{LogCall}
use Rattle.tx_core.specs.declared.entry.Start.{Start}
use Rattle.tx_core.specs.EngineInvariant.{EngineInvariant}
use Rattle.tx_core.specs.Entries.{Stands, history, recs_in, records_of, session_of}
use Rattle.tx_core.specs.Locks.{log_lock}
use Rattle.tx_core.specs.MultiEntries.{AreFewMultis, multi_history}
use Rattle.tx_core.specs.OwnMultis.{IsMultiDone, own_multis}
use Rattle.session_levels.specs.Stands.{IsFresh}
use Rattle.engine_parts.specs.declared.session.Session.{Session}
use Rattle.engine_parts.specs.declared.session.Stage.{Stage}
use Rattle.engine_parts.specs.declared.session.Stage.TheVariants as stages
use Rattle.engine_parts.specs.Answers.{Acted, MayAnswer}
use Rattle.engine_parts.specs.Makings.{IsToldMaking, KeepsMaking, has_more_multis}
use Rattle.engine_parts.specs.MultiAnswers.{MayAnswerMulti}
use Rattle.engine_parts.specs.Holds.{Knowledge}
use Rattle.engine_parts.specs.Sessions.{MayCall, by_at, stance_of}
use Rattle.engine_parts.specs.Stages.{pending_in}
use Rattle.engine_parts.specs.Standing.{LeavesStage}
use Rattle.session_promise.specs.MultiGrowth.{IsLaterThan}
use Rattle.session_promise.specs.Told.{IsNoLater, Place, Span, Told, between, lines_of, place_of, told_in}

-- the records that the life appended
abbrev pub recs_of : List (List Entry) → List Rec
recs_of lists = recs_in (at lists log_lock)

-- the events of the command stand in the round
abbrev pub IsInRound : {X : Type 0} → (X → By) → List X → RoundSpan → By → Type 0
IsInRound {X} whose h round by = (p : ℕ) (e : X) → slice_get h p ≡ Some e → whose e ≡ by → (round.from ≤ p) × (p < round.to)

-- a verdict is told to a command that asks for one alone
abbrev pub IsToAsker : Command → Reply → Type 0
IsToAsker command (replies.Seen visible) = IsTrue (is_told_verdict command)
IsToAsker command reply = Unit {0}

-- What a command may be answered that began in the first of these lists, over the round's span of both histories.
abbrev pub MayAnswerIn : Bool → Start → List (List Entry) → List (List Entry) → Span → By → Stance → Stage → Command → Reply → Type 0
MayAnswerIn tells start begun lists span by s stage (commands.Multi pairs) reply =
    MayAnswerMulti tells start begun lists span.events span.multis by s stage (commands.Multi pairs) reply
MayAnswerIn tells start begun lists span by s stage (commands.SeeMulti name m) reply =
    MayAnswerMulti tells start begun lists span.events span.multis by s stage (commands.SeeMulti name m) reply
MayAnswerIn tells start begun lists span by s stage (commands.MultiFreeze multi) reply =
    MayAnswerMulti tells start begun lists span.events span.multis by s stage (commands.MultiFreeze multi) reply
MayAnswerIn tells start begun lists span by s stage commands.Trim reply =
    MayAnswerMulti tells start begun lists span.events span.multis by s stage commands.Trim reply
MayAnswerIn tells start begun lists span by s stage command reply =
    MayAnswer tells start lists span.events by s stage command reply

-- a multixact that was given with `ok` is done
abbrev pub IsMadeFor : Start → List (List Entry) → ℕ → Reply → Type 0
IsMadeFor start lists n (replies.Multi multi offset warn) = (members : List Member) × IsMultiDone start lists n multi offset members
IsMadeFor start lists n reply = Unit {0}

-- the command appended a truncation's record, and that is below the number of a flush
pub record HasTrimmed (start : Start) (lists : List (List Entry)) (by : By) : Type 0 where
  pub place : ℕ
  pub to : ℕ
  pub oldest : ℕ
  pub multi : ℕ
  pub offset : ℕ
  pub stands : slice_get (records_of lists) place ≡ Some (by, records.Truncate oldest multi offset)
  pub past : start.from + place < to
  pub flushed : Stands lists log_lock (kinds.Flush to)

-- a multixact of the base was raised to by its record
abbrev pub IsRecordedIn : Start → ℕ → ℕ → Type 0
IsRecordedIn start multi offset = (members : List Member) × Contains start.recorded (records.Multi multi offset members)

-- so by a command that was answered so, where the pages told, in a life of few multixacts
abbrev pub IsRaisedAsTold : Bool → Start → List (List Entry) → By → Command → Reply → Type 0
IsRaisedAsTold tells start lists by (commands.MultiFreeze multi) replies.Done =
    IsTrue tells → AreFewMultis lists → multi < start.base.multi → (offset : ℕ)
    → Contains (multi_history lists) (multis.Raise by multi offset) → IsRecordedIn start multi offset
IsRaisedAsTold tells start lists by command reply = Unit {0}

-- The command of the line began in these lists: in its round, with no multixact event of its own yet, and with each
-- multixact done that the session's lines before it were given with `ok`.
pub record HasBegun (start : Start) (begun : List (List Entry)) (n : ℕ) (before : List Line) (t : Told) : Type 0 where
  pub kept : EngineInvariant start begun
  pub in_round : Grows t.span.begun begun
  pub unheard : (e : MultiEvent) → Contains (multi_history begun) e → multi_by e ≡ t.line.by → ⊥
  pub made : AllByRecursion (λ l. IsMadeFor start begun n l.reply) before

-- A line of the session n in these lists, given those of its lines before it: its number, its events of both histories,
-- which stand in its round, that it is refused by how the session stood, or by the members that it names, exactly where
-- that stood so, where it began, its reply, and what it made.
pub record IsToldWell (tells : Bool) (start : Start) (lists : List (List Entry)) (n : ℕ) (before : List Line) (t : Told)
    : Type 0 where
  pub own : t.line.by.session ≡ n
  pub number : t.line.by.command ≡ length before + 1
  pub events : HasEvents t.line.by (stance (history lists) before n) t.line.command t.line.reply
      (events_of t.line.by (history lists))
  pub multis : HasMultiEvents start.base (history lists) t.span.events (multi_history lists) t.line.by t.line.command
      t.line.reply (multis_of t.line.by (multi_history lists))
  pub place : IsInRound by_of (history lists) t.span.events t.line.by
  pub multi_place : IsInRound multi_by (multi_history lists) t.span.multis t.line.by
  pub behind : AllByRecursion (λ e. IsLaterThan t.line.by (by_of e)) (drop t.span.events.to (history lists))
  pub multi_behind : AllByRecursion (λ e. IsLaterThan t.line.by (multi_by e)) (drop t.span.multis.to (multi_history lists))
  pub within : (t.span.events.from ≤ t.span.events.to) × (t.span.events.to ≤ length (history lists))
  pub multi_within : (t.span.multis.from ≤ t.span.multis.to) × (t.span.multis.to ≤ length (multi_history lists))
  pub stage : Stage
  pub pending_is : pending_in stage ≡ pending (recs_of lists) (history lists) before n
  pub standing : by_standing t.line.reply
      ≡ refused_by t.line.command (stance (history lists) before n) (pending_in stage)
  pub members : by_members t.line.reply ≡ refused_by_members t.line.command
  pub begun : List (List Entry)
  pub began : HasBegun start begun n before t
  pub answer : MayAnswerIn tells start begun lists t.span t.line.by (stance (history lists) before n) stage
      t.line.command t.line.reply
  pub made : IsMadeFor start lists n t.line.reply
  pub trimmed : is_ok_trim t.line ≡ true → HasTrimmed start lists t.line.by
  pub fits : IsToAsker t.line.command t.line.reply

abbrev pub is_made_level : Line → Bool
is_made_level l = makes_level l.command

-- a line whose command may be given a multixact
abbrev pub is_made_multi : Line → Bool
is_made_multi l = makes_multi l.command

-- the line of this command says that the log's volume failed
abbrev pub SaysLogFault : List Line → By → Type 0
SaysLogFault lines by = (l : Line) × Contains lines l × (l.by ≡ by) × (l.reply ≡ replies.Refused refusals.LogFault)

-- a fault of the log is told by the line of its command
abbrev pub TellsFaults : List (List Entry) → ℕ → List Line → Type 0
TellsFaults lists n lines =
    (by : By) (asked : LogCall) (count : ℕ) → by.session ≡ n
    → Contains (at lists log_lock) (record { by = by; kind = kinds.LogFault asked count }) → SaysLogFault lines by

-- a session's records are of ends, of multixacts and of truncations
abbrev pub IsOfSession : Rec → Type 0
IsOfSession (records.Checkpoint number counters) = ⊥
IsOfSession rec = Unit {0}

abbrev pub AppendsOwn : List (List Entry) → ℕ → Type 0
AppendsOwn lists n =
    (by : By) (rec : Rec) → by.session ≡ n
    → Contains (at lists log_lock) (record { by = by; kind = kinds.Append rec }) → IsOfSession rec

-- These are the lines of the session n so far, each told well in these lists. Each of its events is of one of them, and
-- it stands as they leave it, with the multixact that it makes. It was given no more ids than it made levels, and each
-- level that lacks one may be given one; and no more multixacts than it asked for. Its faults of the log are told, and it
-- made no checkpoint.
pub record Promise (tells : Bool) (start : Start) (lists : List (List Entry)) (n : ℕ) (told : List Told) (s : Session)
    : Type 0 where
  pub each : EachPlace told (λ before t. IsToldWell tells start lists n (lines_of before) t)
  pub no_other : (e : Event) → Contains (history lists) e → (by_of e).session ≡ n → IsTrue (has_line (lines_of told) e)
  pub no_multi : (e : MultiEvent) → Contains (multi_history lists) e → (multi_by e).session ≡ n
      → IsTrue (has_multi_line (lines_of told) e)
  pub stance_is : stance (history lists) (lines_of told) n ≡ stance_of s
  pub pending_is : pending (recs_of lists) (history lists) (lines_of told) n ≡ pending_in s.stage
  pub making : IsToldMaking (unfinished (multi_history lists) (lines_of told) n) s.making
  pub count : s.levels.commands ≡ length told
  pub ids : length (given_to n (history lists)) + lacking (stance_of s).levels ≤ count_by is_made_level (lines_of told)
  pub raises : IsTrue tells → AreFewMultis lists → (by : By) (multi offset : ℕ) → by.session ≡ n
      → Contains (multi_history lists) (multis.Raise by multi offset) → multi < start.base.multi → IsRecordedIn start multi offset
  pub gens : length (made (own_multis n lists)) ≤ count_by is_made_multi (lines_of told)
  pub faults : TellsFaults lists n (lines_of told)
  pub ends : AppendsOwn lists n

-- ---- what keeps it

-- between these two points the session's next command ran and was answered so
pub record Answered (tells : Bool) (start : Start) (v w : Knowledge) (n : ℕ) (command : Command) (reply : Reply)
    (s s' : Session) : Type 0 where
  pub might : MayCall start v n s
  pub may : MayCall start w n s'
  pub acted : Acted tells start (by_at n (s.levels.commands + 1)) (stance_of s) (stance_of s') s.stage command reply
      v.seen w.seen
  pub stage : LeavesStage command reply s.stage s'.stage
  pub making : KeepsMaking command reply (has_more_multis n v.seen w.seen) s.making s'.making
  pub members : by_members reply ≡ refused_by_members command
  pub made : IsMadeFor start w.seen n reply
  pub trimmed : command ≡ commands.Trim → reply ≡ replies.Done
      → HasTrimmed start w.seen (by_at n (s.levels.commands + 1))
  pub raised : IsRaisedAsTold tells start w.seen (by_at n (s.levels.commands + 1)) command reply
  pub fits : IsToAsker command reply
  pub count : s'.levels.commands ≡ s.levels.commands + 1

-- a session that has done nothing, whatever others have done
pub record HasDoneNothing (start : Start) (lists : List (List Entry)) (n : ℕ) (s : Session) : Type 0 where
  pub kept : EngineInvariant start lists
  pub empty : (place : ℕ) → own session_of n (at lists place) ≡ []
  pub fresh : IsFresh s.levels
  pub stage : s.stage ≡ stages.Clear
  pub making : s.making ≡ None

-- ---- the laws of one session

-- it promises of no line
abbrev pub PromiseBegins : Type 0
PromiseBegins =
    (tells : Bool) (start : Start) (lists : List (List Entry)) (n : ℕ) (s : Session) → HasDoneNothing start lists n s
    → Promise tells start lists n [] s

-- while others go on, it promises the same, and of the round that runs up to a later place
abbrev pub PromiseStays : Type 0
PromiseStays =
    (tells : Bool) (start : Start) (lists more : List (List Entry)) (n : ℕ) (past : List Told) (from to later : Place)
    (lines : List Line) (s : Session)
    → EngineInvariant start more → Knows session_of n lists more → IsNoLater to later → IsNoLater later (place_of more)
    → Promise tells start lists n (past ++ told_in (between from to) lines) s
    → Promise tells start more n (past ++ told_in (between from later) lines) s

-- it goes on with the session's next command, whose round began at `from`
abbrev pub PromiseGoesOn : Type 0
PromiseGoesOn =
    (tells : Bool) (start : Start) (v w : Knowledge) (n : ℕ) (past : List Told) (from to : Place) (lines : List Line)
    (command : Command) (reply : Reply) (s s' : Session)
    → Answered tells start v w n command reply s s' → IsNoLater from (place_of v.seen)
    → Promise tells start v.seen n (past ++ told_in (between from to) lines) s
    → Promise tells start w.seen n
    (past ++ told_in (between from (place_of w.seen))
    (lines ++ record { by = by_at n (s.levels.commands + 1); command = command; reply = reply } ∷ [])) s'
