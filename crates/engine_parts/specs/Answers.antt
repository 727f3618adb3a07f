-- What a call of the engine promises, and keeps promising while others go on.
use Rattle.std.specs.Prelude.{◌≡◌, ℕ, ◌<◌, ◌≤◌, length, List, [], ◌++◌, Result, Ok, Err, Some, Bool, true, false, Contains, IsTrue}
use Rattle.std.specs.List.{AllByRecursion, filter}
use Rattle.notes.specs.Lists.{Grows, at}
use Rattle.tx_events.specs.declared.event.By.{By}
use Rattle.tx_events.specs.declared.event.Event.{Event}
use Rattle.tx_events.specs.declared.record.Rec.TheVariants as records
use Rattle.tx_events.specs.declared.refusal.Refusal.{Refusal}
use Rattle.tx_events.specs.declared.refusal.Refusal.TheVariants as refusals
use Rattle.tx_events.specs.Events.{by_of, given, is_of}
use Rattle.tx_events.specs.declared.multi.MultiEvent.{MultiEvent}
use Rattle.tx_events.specs.Multis.{multi_by}
use Rattle.tx_events.specs.Running.{open_ids}
use Rattle.tx_model.specs.declared.command.Command.{Command}
use Rattle.tx_model.specs.declared.command.Command.TheVariants as commands
use Rattle.tx_model.specs.declared.reply.Reply.{Reply}
use Rattle.tx_model.specs.declared.reply.Reply.TheVariants as replies
use Rattle.tx_model.specs.CommandEvents.{HasEvents}
use Rattle.tx_model.specs.Replies.{IsKnown, MayReply, RoundSpan, alone}
use Rattle.tx_model.specs.Stance.{Stance, after, top_level}
use Rattle.tx_core.specs.declared.entry.Entry.{Entry}
use Rattle.tx_core.specs.declared.entry.Kind.TheVariants as kinds
use Rattle.tx_core.specs.declared.entry.Start.{Start}
use Rattle.tx_core.specs.Entries.{AreFewIds, history, recs_in}
use Rattle.tx_core.specs.Locks.{log_lock, number_of}
use Rattle.tx_core.specs.MultiEntries.{multi_history}
use Rattle.tx_core.specs.OwnMultis.{own_multis}
use Rattle.engine_parts.specs.declared.session.Stage.{Stage}
use Rattle.engine_parts.specs.declared.session.Stage.TheVariants as stages
use Rattle.engine_parts.specs.Adding.{Adds, MayLeave}
pub use Rattle.engine_parts.specs.Met.{MetFault, MetLogFault}
use Rattle.engine_parts.specs.MultiAnswers.{MayAnswerMulti}
use Rattle.engine_parts.specs.Stand.{IsDownAt}
use Rattle.life_law.specs.DidCommit.{IsDid}
use Rattle.life_law.specs.MultiLines.{HasMultiEvents}
use Rattle.life_law.specs.Refused.{by_standing, refused_by}
use Rattle.engine_parts.specs.Stages.{pending_in}
use Rattle.engine_parts.specs.Standing.{HoldsDown, appends, asks_volume, flushes, needs_log, takes_memory}

-- the commit record of the open transaction stands, and an earlier command of the session appended it
pub record IsCommitPending (lists : List (List Entry)) (by : By) (s : Stance) : Type 0 where
  pub top : ℕ
  pub subs : List ℕ
  pub other : By
  pub own : other.session ≡ by.session
  pub earlier : other.command < by.command
  pub top_is : top_level s.levels ≡ Some top
  pub stands : Contains (at lists log_lock) (record { by = other; kind = kinds.Append (records.Commit top subs) })

-- A verdict is told where the volumes tell, in a life of few ids, and so is how an id stands that doesn't run.
abbrev pub MayTell : Bool → Start → List (List Entry) → RoundSpan → By → Stance → Command → Reply → Type 0
MayTell tells start lists span by s command (replies.Seen verdict) =
    IsTrue tells → AreFewIds lists
    → MayReply start.base start.committed (history lists) span by s command (replies.Seen verdict)
MayTell tells start lists span by s (commands.Status x) (replies.Known status) =
    IsKnown (IsTrue tells × AreFewIds lists) start.base start.committed (history lists) by x status
MayTell tells start lists span by s (commands.Did x) (replies.Did answer) =
    IsDid (IsTrue tells × AreFewIds lists) start.base start.committed (history lists)
    (start.logged ++ recs_in (at lists log_lock)) span by x.number answer
MayTell tells start lists span by s command reply =
    MayReply start.base start.committed (history lists) span by s command reply

-- The reply that a command may get, by the lists as they are then or later. A fault is one that this command met, of a
-- volume that it asks. A log is down behind a fault that its list has, and holds up no commit that was on disk before.
-- A commit is pending by the session's own record, an abort or an undo by its stage. Memory may be wanting to each
-- command that takes some, and the log be full to each that appends: for which record its list left no room, the call
-- itself says (`FoundFull` of log_sections).
abbrev pub MayAnswer : Bool → Start → List (List Entry) → RoundSpan → By → Stance → Stage → Command → Reply → Type 0
MayAnswer tells start lists span by s stage command (replies.Refused refusals.Memory) =
    IsTrue (takes_memory command s stage)
MayAnswer tells start lists span by s stage command (replies.Refused refusals.Full) = IsTrue (appends command s stage)
MayAnswer tells start lists span by s stage command (replies.Refused (refusals.DiskFault lock)) =
    IsTrue (asks_volume command s stage lock) × MetFault lists (number_of lock) by
MayAnswer tells start lists span by s stage command (replies.Refused refusals.LogFault) =
    IsTrue (flushes command s stage) × MetLogFault lists by
MayAnswer tells start lists span by s stage command (replies.Refused (refusals.LogDown down)) =
    IsTrue (needs_log command s stage) × IsDownAt start (at lists log_lock) down × HoldsDown command stage down
MayAnswer tells start lists span by s stage command (replies.Refused refusals.CommitPending) =
    IsCommitPending lists by s
MayAnswer tells start lists span by s stage command (replies.Refused refusals.AbortPending) = stage ≡ stages.Aborting
MayAnswer tells start lists span by s stage command (replies.Refused refusals.UndoPending) = stage ≡ stages.Undoing
MayAnswer tells start lists span by s stage command reply = MayTell tells start lists span by s command reply

-- where the multixacts' events stood before a command and behind it
abbrev pub alone_multis : List (List Entry) → List (List Entry) → RoundSpan
alone_multis lists more = record { from = length (multi_history lists); to = length (multi_history more) }

-- the commands that touch multixacts
abbrev pub touches_multis : Command → Bool
touches_multis (commands.Multi pairs) = true
touches_multis (commands.SeeMulti name m) = true
touches_multis (commands.MultiFreeze multi) = true
touches_multis commands.Trim = true
touches_multis command = false

-- whatever the command
abbrev pub MayAnswerAny : Bool → Start → List (List Entry) → List (List Entry) → By → Stance → Stage → Command → Reply → Type 0
MayAnswerAny tells start begun lists by s stage (commands.Multi pairs) reply =
    MayAnswerMulti tells start begun lists (alone (history begun) (history lists)) (alone_multis begun lists) by s stage (commands.Multi pairs) reply
MayAnswerAny tells start begun lists by s stage (commands.SeeMulti name m) reply =
    MayAnswerMulti tells start begun lists (alone (history begun) (history lists)) (alone_multis begun lists) by s stage (commands.SeeMulti name m) reply
MayAnswerAny tells start begun lists by s stage (commands.MultiFreeze multi) reply =
    MayAnswerMulti tells start begun lists (alone (history begun) (history lists)) (alone_multis begun lists) by s stage (commands.MultiFreeze multi) reply
MayAnswerAny tells start begun lists by s stage commands.Trim reply =
    MayAnswerMulti tells start begun lists (alone (history begun) (history lists)) (alone_multis begun lists) by s stage commands.Trim reply
MayAnswerAny tells start begun lists by s stage command reply =
    MayAnswer tells start lists (alone (history begun) (history lists)) by s stage command reply

-- a command that was answered so has no event of a multixact
abbrev pub HasNoMultis : Start → List (List Entry) → List (List Entry) → By → Command → Reply → Type 0
HasNoMultis start lists more by command reply =
    HasMultiEvents start.base (history more) (alone (history lists) (history more)) (multi_history more) by command reply []

-- What a call did: the lists went on, the session's events are those before and then these, which are the command's
-- and fit its reply, and so are its events of multixacts. No entry of it but such as this command leaves with this reply.
-- The reply is lawful, and a refusal by how the session stands comes exactly where the session stands so. The session
-- stands as the reply leaves it.
pub record Acted (tells : Bool) (start : Start) (by : By) (s s' : Stance) (stage : Stage) (command : Command)
    (reply : Reply) (lists lists' : List (List Entry)) : Type 0 where
  pub grows : Grows lists lists'
  pub added : List Event
  pub own : filter (is_of by.session) (history lists') ≡ filter (is_of by.session) (history lists) ++ added
  pub each : AllByRecursion (λ e. by_of e ≡ by) added
  pub fitting : HasEvents by s command reply added
  pub multis : List MultiEvent
  pub own_multi : own_multis by.session lists' ≡ own_multis by.session lists ++ multis
  pub each_multi : AllByRecursion (λ e. multi_by e ≡ by) multis
  pub fitting_multi : HasMultiEvents start.base (history lists') (alone (history lists) (history lists'))
      (multi_history lists') by command reply multis
  pub adds : Adds by (MayLeave command s stage (open_ids by.session (history lists)) reply) lists lists'
  pub allowed : MayAnswerAny tells start lists lists' by s stage command reply
  pub standing : by_standing reply ≡ refused_by command s (pending_in stage)
  pub left : after s by.command command reply (given added) ≡ s'

-- the reply of a result
abbrev pub reply_of : {T : Type 0} → (T → Reply) → Result T Refusal → Reply
reply_of f (Ok x) = f x
reply_of f (Err r) = replies.Refused r

-- What a command may be answered it may be answered in longer lists and over a wider span too, where the events that
-- are more are of other sessions or of later commands.
abbrev pub AnswersStay : Type 0
AnswersStay =
    (tells : Bool) (start : Start) (lists more : List (List Entry)) (span wider : RoundSpan) (by : By) (s : Stance)
    (stage : Stage) (command : Command) (reply : Reply)
    → wider.from ≤ span.from → span.to ≤ wider.to → span.to ≤ length (history lists) → Grows lists more
    → ((rest : List Event) → history lists ++ rest ≡ history more → AllByRecursion (λ e.
    (by_of e).session ≡ by.session → by.command < (by_of e).command) rest)
    → MayAnswer tells start lists span by s stage command reply
    → MayAnswer tells start more wider by s stage command reply
