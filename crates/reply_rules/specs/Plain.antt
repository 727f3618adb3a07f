-- The replies that go by no place of a history and aren't refusals by memory, volumes or the log: those that how a session
-- stands alone brings, and what is told of an id below 3.
use Rattle.std.specs.Prelude.{◌≡◌, ◌≢◌, ◌<◌, ◌≤◌, Bool, true, false, [], None, length}
use Rattle.tx_events.specs.declared.refusal.Refusal.{Refusal}
use Rattle.tx_events.specs.declared.refusal.Refusal.TheVariants as refusals
use Rattle.tx_model.specs.declared.command.Command.{Command}
use Rattle.tx_model.specs.declared.command.Command.TheVariants as commands
use Rattle.tx_model.specs.declared.reply.Reply.{Reply}
use Rattle.tx_model.specs.declared.reply.Reply.TheVariants as replies
use Rattle.tx_model.specs.Replies.{most_levels, special_status}
use Rattle.tx_model.specs.Stance.{Stance, snap_of}
use Rattle.life_law.specs.DidCommit.{special_did}

-- the refusals for want of memory, for faults and by the log
abbrev pub is_log_refusal : Refusal → Bool
is_log_refusal refusals.Memory = true
is_log_refusal (refusals.DiskFault lock) = true
is_log_refusal refusals.LogFault = true
is_log_refusal (refusals.LogDown at) = true
is_log_refusal refusals.Full = true
is_log_refusal refusal = false

abbrev pub is_by_log : Reply → Bool
is_by_log (replies.Refused refusal) = is_log_refusal refusal
is_by_log reply = false

-- how a session stands whose command is answered `ok`; a `trim` may be so at any time
abbrev pub IsPlainDone : Stance → Command → Type 0
IsPlainDone s commands.Begin = s.levels ≡ []
IsPlainDone s commands.Save = (s.levels ≢ []) × (length s.levels < most_levels)
IsPlainDone s commands.Release = 2 ≤ length s.levels
IsPlainDone s commands.Undo = 2 ≤ length s.levels
IsPlainDone s commands.Commit = s.levels ≢ []
IsPlainDone s commands.Abort = s.levels ≢ []
IsPlainDone s (commands.DropSnap name) = snap_of name s ≢ None
IsPlainDone s (commands.Freeze oldest) = Unit {0}
IsPlainDone s commands.Trim = Unit {0}
IsPlainDone s command = ⊥

abbrev pub IsPlain : Stance → Command → Reply → Type 0
IsPlain s command replies.Done = IsPlainDone s command
IsPlain s (commands.Status x) (replies.Known status) = status ≡ special_status x
IsPlain s (commands.Did x) (replies.Did answer) = answer ≡ special_did x.number
IsPlain s command reply = ⊥
