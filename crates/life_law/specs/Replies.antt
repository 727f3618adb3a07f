-- Which replies of a life are lawful: those of its history, and those of its devices and of memory.
use Rattle.std.specs.Prelude.{◌≡◌, ℕ, ◌<◌, nat_le, Bool, true, false, ◌||◌, IsTrue, Option, None, is_none, is_some}
use Rattle.std.specs.List.{list_any}
use Rattle.tx_events.specs.declared.event.By.{By}
use Rattle.tx_events.specs.declared.refusal.Lock.{Lock}
use Rattle.tx_events.specs.declared.refusal.Lock.TheVariants as locks
use Rattle.tx_events.specs.declared.refusal.Refusal.{Refusal}
use Rattle.tx_events.specs.declared.refusal.Refusal.TheVariants as refusals
use Rattle.tx_model.specs.declared.command.Command.{Command}
use Rattle.tx_model.specs.declared.command.Command.TheVariants as commands
use Rattle.tx_model.specs.declared.reply.Reply.{Reply}
use Rattle.tx_model.specs.declared.reply.Reply.TheVariants as replies
use Rattle.tx_model.specs.CommandEvents.{innermost}
use Rattle.tx_model.specs.Replies.{IsKnown, MayReply, RoundSpan}
use Rattle.tx_model.specs.Stance.{Stance, top_level}
use Rattle.life_law.specs.DidCommit.{IsDid}
use Rattle.life_law.specs.Facts.{Facts}
use Rattle.life_law.specs.Refused.{is_commit_pending}

-- whether a level lacks an id
abbrev pub lacks_id : Stance → Bool
lacks_id s = list_any is_none s.levels

-- Whether a command asks the volume behind this lock, of a session that stands so and of which this end is pending: an
-- end does where the transaction has an id, an undo where its savepoint has one, and a write asks pg_xact where a level
-- lacks one. An id's parent is recorded before its commit is, by a write that needs no more ids too. Of a special id
-- nothing is asked. A trim asks all four stores.
abbrev pub may_ask : Command → Stance → Option Refusal → Lock → Bool
may_ask commands.Write s pending (locks.Xact bank) = lacks_id s
may_ask commands.Write s pending (locks.Subtrans bank) = true
may_ask commands.Commit s pending (locks.Xact bank) = is_some (top_level s.levels)
may_ask commands.Commit s None (locks.Subtrans bank) = is_some (top_level s.levels)
may_ask commands.Undo s pending (locks.Xact bank) = is_some (innermost s.levels)
may_ask commands.Abort s pending (locks.Xact bank) = is_some (top_level s.levels)
may_ask (commands.See name x) s pending (locks.Xact bank) = nat_le 3 x.number
may_ask (commands.See name x) s pending (locks.Subtrans bank) = nat_le 3 x.number
may_ask (commands.Status x) s pending (locks.Xact bank) = nat_le 3 x
may_ask (commands.Did x) s pending (locks.Xact bank) = nat_le 3 x.number
may_ask (commands.Did x) s pending (locks.Subtrans bank) = nat_le 3 x.number
may_ask (commands.Multi members) s pending (locks.Offsets bank) = true
may_ask (commands.Multi members) s pending (locks.Members bank) = true
may_ask (commands.SeeMulti name multi) s pending (locks.Xact bank) = true
may_ask (commands.SeeMulti name multi) s pending (locks.Subtrans bank) = true
may_ask (commands.SeeMulti name multi) s pending (locks.Offsets bank) = true
may_ask (commands.SeeMulti name multi) s pending (locks.Members bank) = true
may_ask (commands.MultiFreeze multi) s pending (locks.Offsets bank) = true
may_ask commands.Trim s pending (locks.Xact bank) = true
may_ask commands.Trim s pending (locks.Subtrans bank) = true
may_ask commands.Trim s pending (locks.Offsets bank) = true
may_ask commands.Trim s pending (locks.Members bank) = true
may_ask command s pending lock = false

-- the lock is that of a bank of a store, which has so many
abbrev pub IsBank : ℕ → Lock → Type 0
IsBank banks (locks.Xact bank) = bank < banks
IsBank banks (locks.Subtrans bank) = bank < banks
IsBank banks (locks.Offsets bank) = bank < banks
IsBank banks (locks.Members bank) = bank < banks
IsBank banks lock = ⊥

-- whether a commit has yet to append its record: the transaction has an id, and no end is pending
abbrev pub is_unrecorded : Stance → Option Refusal → Bool
is_unrecorded s None = is_some (top_level s.levels)
is_unrecorded s pending = false

-- whether it takes memory that isn't there from the start
abbrev pub may_lack_memory : Command → Stance → Option Refusal → Bool
may_lack_memory commands.Write s pending = lacks_id s
may_lack_memory commands.Commit s pending = is_unrecorded s pending
may_lack_memory (commands.Snap name) s pending = true
may_lack_memory (commands.Status x) s pending = nat_le 3 x
may_lack_memory (commands.Freeze oldest) s pending = true
may_lack_memory (commands.Multi members) s pending = true
may_lack_memory (commands.SeeMulti name multi) s pending = true
may_lack_memory (commands.MultiFreeze multi) s pending = true
may_lack_memory commands.Trim s pending = true
may_lack_memory command s pending = false

-- whether it must append a record, and so may find the log full
abbrev pub may_append : Command → Stance → Option Refusal → Bool
may_append commands.Commit s pending = is_unrecorded s pending
may_append (commands.Multi members) s pending = true
may_append commands.Trim s pending = true
may_append command s pending = false

-- whether it must have its record on disk, and so may meet the fault of the log's volume
abbrev pub may_flush : Command → Stance → Option Refusal → Bool
may_flush commands.Commit s pending = is_unrecorded s pending || is_commit_pending pending
may_flush commands.Trim s pending = true
may_flush command s pending = false

-- whether it may find a log that is down
abbrev pub may_need_log : Command → Stance → Option Refusal → Bool
may_need_log (commands.Multi members) s pending = true
may_need_log command s pending = may_flush command s pending

-- whether it asks for a verdict
abbrev pub is_told_verdict : Command → Bool
is_told_verdict (commands.See name x) = true
is_told_verdict command = false

-- The reply that a command may get in a round, of a session that stands so and of which this end is pending. A verdict
-- is told where the volumes told, and so is how an id stands that doesn't run. A log is down behind a fault of its volume
-- that some command was told, and then nothing more is flushed. A refusal for an end that is pending goes by how the session stands, and nothing more is
-- asked of it here.
abbrev pub IsLawfulReply : Facts → RoundSpan → By → Stance → Option Refusal → Command → Reply → Type 0
IsLawfulReply f round by s pending command (replies.Refused refusals.Memory) = IsTrue (may_lack_memory command s pending)
IsLawfulReply f round by s pending command (replies.Refused (refusals.DiskFault lock)) =
    IsTrue (may_ask command s pending lock) × IsBank f.banks lock
IsLawfulReply f round by s pending command (replies.Refused refusals.LogFault) =
    IsTrue (may_flush command s pending)
IsLawfulReply f round by s pending command (replies.Refused refusals.Full) = IsTrue (may_append command s pending)
IsLawfulReply f round by s pending command (replies.Refused (refusals.LogDown at)) =
    IsTrue (may_need_log command s pending) × (at ≡ f.flushed) × IsTrue f.log_failed
IsLawfulReply f round by s pending command (replies.Refused refusals.CommitPending) = Unit {0}
IsLawfulReply f round by s pending command (replies.Refused refusals.AbortPending) = Unit {0}
IsLawfulReply f round by s pending command (replies.Refused refusals.UndoPending) = Unit {0}
IsLawfulReply f round by s pending command (replies.Seen visible) =
    IsTrue (is_told_verdict command)
    × (IsTrue f.tells → MayReply f.base f.committed f.events round by s command (replies.Seen visible))
IsLawfulReply f round by s pending (commands.Status x) (replies.Known status) =
    IsKnown (IsTrue f.tells) f.base f.committed f.events by x status
IsLawfulReply f round by s pending (commands.Did x) (replies.Did answer) =
    IsDid (IsTrue f.tells) f.base f.committed f.events f.recs round by x.number answer
IsLawfulReply f round by s pending command reply = MayReply f.base f.committed f.events round by s command reply
