-- What a command on multixacts may be answered, by the lists as they are then or later.
use Rattle.std.specs.Prelude.{◌≡◌, ◌<◌, ◌≤◌, ℕ, Bool, IsTrue, List, Contains, Some, slice_get, take}
use Rattle.std.specs.List.{filter_map}
use Rattle.notes.specs.Lists.{Grows, at}
use Rattle.tx_events.specs.declared.event.By.{By}
use Rattle.tx_events.specs.declared.multi.Member.{Member}
use Rattle.tx_events.specs.declared.multi.MultiEvent.TheVariants as multis
use Rattle.tx_events.specs.declared.record.Rec.TheVariants as records
use Rattle.tx_events.specs.declared.refusal.Refusal.TheVariants as refusals
use Rattle.tx_events.specs.Multis.{next_made}
use Rattle.tx_model.specs.declared.command.Command.{Command}
use Rattle.tx_model.specs.declared.reply.Reply.{Reply}
use Rattle.tx_model.specs.declared.reply.Reply.TheVariants as replies
use Rattle.tx_model.specs.Replies.{RoundSpan}
use Rattle.tx_model.specs.Stance.{Stance}
pub use Rattle.life_law.specs.MultiPlaces.{recorded_by}
use Rattle.life_law.specs.MultiPlaces.{Recorded}
use Rattle.life_law.specs.MultiReplies.{MayReplyMulti}
use Rattle.tx_core.specs.declared.entry.Entry.{Entry}
use Rattle.tx_core.specs.declared.entry.Start.{Start}
use Rattle.tx_core.specs.Entries.{AreFewIds, history}
use Rattle.tx_core.specs.Locks.{log_lock, number_of}
use Rattle.tx_core.specs.MultiEntries.{AreFewMultis, IsOffsetSet, multi_history}
use Rattle.engine_parts.specs.declared.session.Stage.{Stage}
use Rattle.engine_parts.specs.Met.{MetFault, MetLogFault}
use Rattle.engine_parts.specs.Stand.{IsDownAt}
use Rattle.engine_parts.specs.Standing.{appends, asks_volume, flushes, needs_log, takes_memory}

-- the multixacts with which a life begins
abbrev pub recorded_in : Start → List Recorded
recorded_in start = filter_map recorded_by start.recorded

-- There was a moment between the command's begin and later at which no offset of the multixact was set, though it was below
-- the next one when the command pinned it or one before it. Of the base it has no record. Who gave it then, or is at it still, is told where
-- the promises of all commands meet.
pub record WasNotYet (start : Start) (begun lists : List (List Entry)) (by : By) (multi : ℕ) : Type 0 where
  pub seen : List (List Entry)
  pub from : Grows begun seen
  pub upto : Grows seen lists
  pub pinned : ℕ
  pub asked : ℕ
  pub stands : slice_get (multi_history seen) pinned ≡ Some (multis.Hold by asked)
  pub from_asked : asked ≤ multi
  pub below : multi < next_made start.base.multi (take pinned (multi_history seen))
  pub unset : (offset : ℕ) → IsOffsetSet start seen multi offset → ⊥
  pub unrecorded : multi < start.base.multi → (offset : ℕ) (members : List Member)
      → Contains start.recorded (records.Multi multi offset members) → ⊥

-- The command began in the first of these lists. A fault, a full log, a log that is down and want of memory are as those of
-- other commands.
abbrev pub MayAnswerMulti : Bool → Start → List (List Entry) → List (List Entry) → RoundSpan → RoundSpan → By → Stance
    → Stage → Command → Reply → Type 0
MayAnswerMulti tells start begun lists span of_multis by s stage command (replies.Refused refusals.Memory) =
    IsTrue (takes_memory command s stage)
MayAnswerMulti tells start begun lists span of_multis by s stage command (replies.Refused refusals.Full) =
    IsTrue (appends command s stage)
MayAnswerMulti tells start begun lists span of_multis by s stage command (replies.Refused (refusals.DiskFault lock)) =
    IsTrue (asks_volume command s stage lock) × MetFault lists (number_of lock) by
MayAnswerMulti tells start begun lists span of_multis by s stage command (replies.Refused refusals.LogFault) =
    IsTrue (flushes command s stage) × MetLogFault lists by
MayAnswerMulti tells start begun lists span of_multis by s stage command (replies.Refused (refusals.LogDown down)) =
    IsTrue (needs_log command s stage) × IsDownAt start (at lists log_lock) down
MayAnswerMulti tells start begun lists span of_multis by s stage command reply =
    MayReplyMulti (IsTrue tells × AreFewIds lists × AreFewMultis lists) (WasNotYet start begun lists by) start.base
    start.committed (recorded_in start) (history lists) (multi_history lists) span of_multis by s command reply
