-- What a command asks for by how its session stands, and where it leaves an end.
use Rattle.std.specs.Prelude.{◌≡◌, ◌⊎◌, ◌≤◌, ℕ, nat_le, Bool, true, false, is_some}
use Rattle.tx_events.specs.declared.refusal.Lock.{Lock}
use Rattle.tx_events.specs.declared.refusal.Lock.TheVariants as locks
use Rattle.tx_events.specs.declared.refusal.Refusal.{Refusal}
use Rattle.tx_events.specs.declared.refusal.Refusal.TheVariants as refusals
use Rattle.tx_model.specs.declared.command.Command.{Command}
use Rattle.tx_model.specs.declared.command.Command.TheVariants as commands
use Rattle.tx_model.specs.declared.reply.Reply.{Reply}
use Rattle.tx_model.specs.declared.reply.Reply.TheVariants as replies
use Rattle.tx_model.specs.CommandEvents.{innermost}
use Rattle.tx_model.specs.Stance.{Stance, top_level}
use Rattle.life_law.specs.Refused.{is_by_standing}
use Rattle.life_law.specs.Replies.{lacks_id}
use Rattle.engine_parts.specs.declared.session.Stage.{Stage}
use Rattle.engine_parts.specs.declared.session.Stage.TheVariants as stages

-- whether a commit has yet to append its record: the transaction has an id, and no end was begun
abbrev pub is_unrecorded : Stance → Stage → Bool
is_unrecorded s stages.Clear = is_some (top_level s.levels)
is_unrecorded s stage = false

-- whether it has yet to put its record on disk
abbrev pub is_unflushed : Stance → Stage → Bool
is_unflushed s (stages.Logged number) = true
is_unflushed s stage = is_unrecorded s stage

-- whether a command may be refused for want of memory
abbrev pub takes_memory : Command → Stance → Stage → Bool
takes_memory commands.Begin s stage = false
takes_memory commands.Save s stage = false
takes_memory commands.Release s stage = false
takes_memory commands.Undo s stage = false
takes_memory commands.Write s stage = lacks_id s
takes_memory commands.Commit s stage = is_unrecorded s stage
takes_memory commands.Abort s stage = false
takes_memory commands.Horizon s stage = false
takes_memory (commands.DropSnap name) s stage = false
takes_memory (commands.See name x) s stage = false
takes_memory (commands.Status x) s stage = nat_le 3 x
takes_memory (commands.Did x) s stage = false
takes_memory command s stage = true

-- whether a command must append a record, and so may find the log full: an abort goes on without its record
abbrev pub appends : Command → Stance → Stage → Bool
appends commands.Commit s stage = is_unrecorded s stage
appends (commands.Multi members) s stage = true
appends commands.Trim s stage = true
appends command s stage = false

-- whether it must put one on disk, and so may meet the fault of the log's volume
abbrev pub flushes : Command → Stance → Stage → Bool
flushes commands.Commit s stage = is_unflushed s stage
flushes commands.Trim s stage = true
flushes command s stage = false

-- whether it may find the log down
abbrev pub needs_log : Command → Stance → Stage → Bool
needs_log (commands.Multi members) s stage = true
needs_log command s stage = flushes command s stage

-- Whether a command asks the volume behind this lock: an end does where the transaction has an id, an undo where its
-- savepoint has one, and a write asks pg_xact where a level lacks one. An id's parent is recorded before its commit is.
-- Of a special id nothing is asked.
abbrev pub asks_volume : Command → Stance → Stage → Lock → Bool
asks_volume commands.Write s stage (locks.Xact bank) = lacks_id s
asks_volume commands.Write s stage (locks.Subtrans bank) = true
asks_volume commands.Commit s stage (locks.Xact bank) = is_some (top_level s.levels)
asks_volume commands.Commit s stages.Clear (locks.Subtrans bank) = is_some (top_level s.levels)
asks_volume commands.Undo s stage (locks.Xact bank) = is_some (innermost s.levels)
asks_volume commands.Abort s stage (locks.Xact bank) = is_some (top_level s.levels)
asks_volume (commands.See name x) s stage (locks.Xact bank) = nat_le 3 x.number
asks_volume (commands.See name x) s stage (locks.Subtrans bank) = nat_le 3 x.number
asks_volume (commands.Status x) s stage (locks.Xact bank) = nat_le 3 x
asks_volume (commands.Did x) s stage (locks.Xact bank) = nat_le 3 x.number
asks_volume (commands.Did x) s stage (locks.Subtrans bank) = nat_le 3 x.number
asks_volume (commands.Multi members) s stage (locks.Offsets bank) = true
asks_volume (commands.Multi members) s stage (locks.Members bank) = true
asks_volume (commands.SeeMulti name multi) s stage (locks.Xact bank) = true
asks_volume (commands.SeeMulti name multi) s stage (locks.Subtrans bank) = true
asks_volume (commands.SeeMulti name multi) s stage (locks.Offsets bank) = true
asks_volume (commands.SeeMulti name multi) s stage (locks.Members bank) = true
asks_volume (commands.MultiFreeze multi) s stage (locks.Offsets bank) = true
asks_volume commands.Trim s stage (locks.Xact bank) = true
asks_volume commands.Trim s stage (locks.Subtrans bank) = true
asks_volume commands.Trim s stage (locks.Offsets bank) = true
asks_volume commands.Trim s stage (locks.Members bank) = true
asks_volume command s stage lock = false

-- whether a log that is down from this number on refuses it: not a commit whose record is on disk
abbrev pub IsHeldDown : Stage → ℕ → Type 0
IsHeldDown (stages.Logged number) down = down ≤ number
IsHeldDown stage down = Unit {0}

-- So of a commit. Another command that a log which is down refuses says nothing of the session's commit, which may be
-- pending with its record on disk.
abbrev pub HoldsDown : Command → Stage → ℕ → Type 0
HoldsDown commands.Commit stage down = IsHeldDown stage down
HoldsDown command stage down = Unit {0}

-- the commands that move the session's end
abbrev pub moves_end : Command → Bool
moves_end commands.Commit = true
moves_end commands.Abort = true
moves_end commands.Undo = true
moves_end _ = false

-- where the session's end stands behind a command that is done: a commit, an abort and an undo are over
abbrev pub done_at : Command → Stage → Stage
done_at commands.Commit stage = stages.Clear
done_at commands.Abort stage = stages.Clear
done_at commands.Undo stage = stages.Clear
done_at command stage = stage

-- how many steps of the tree rule are done
abbrev pub steps_of : Stage → ℕ
steps_of (stages.Settling steps) = steps
steps_of stage = 0

-- the record of a commit was appended now, or stood before under the same number
abbrev pub IsLoggedFrom : Stage → Stage → Type 0
IsLoggedFrom (stages.Logged number) new = new ≡ stages.Logged number
IsLoggedFrom old new = (old ≡ stages.Clear) × (number : ℕ) × (new ≡ stages.Logged number)

-- Behind a commit that was refused so: its record is in doubt behind a fault of the log's volume. A log that is down
-- has it or hasn't. A fault of pg_xact comes behind the flush, any other refusal before the record.
abbrev pub IsLeftByCommit : Refusal → Stage → Stage → Type 0
IsLeftByCommit refusals.LogFault old new = IsLoggedFrom old new
IsLeftByCommit (refusals.LogDown down) old new = (new ≡ old) ⊎ IsLoggedFrom old new
IsLeftByCommit (refusals.DiskFault (locks.Xact bank)) old new =
    (steps : ℕ) × (steps_of old ≤ steps) × (new ≡ stages.Settling steps)
IsLeftByCommit refusal old new = new ≡ old

-- And behind any command that the lists or want of memory refused. An abort or an undo is refused so only behind a fault
-- of a bank, and is begun then.
abbrev pub IsLeftAt : Command → Refusal → Stage → Stage → Type 0
IsLeftAt commands.Commit refusal old new = IsLeftByCommit refusal old new
IsLeftAt commands.Abort (refusals.DiskFault lock) old new = new ≡ stages.Aborting
IsLeftAt commands.Abort refusal old new = ⊥
IsLeftAt commands.Undo (refusals.DiskFault lock) old new = new ≡ stages.Undoing
IsLeftAt commands.Undo refusal old new = ⊥
IsLeftAt command refusal old new = new ≡ old

abbrev pub IsLeftBy : Bool → Command → Refusal → Stage → Stage → Type 0
IsLeftBy true command refusal old new = new ≡ old
IsLeftBy false command refusal old new = IsLeftAt command refusal old new

-- where the session's end stands behind a command that was answered so
abbrev pub LeavesStage : Command → Reply → Stage → Stage → Type 0
LeavesStage command (replies.Refused refusal) old new = IsLeftBy (is_by_standing refusal) command refusal old new
LeavesStage command reply old new = new ≡ done_at command old
