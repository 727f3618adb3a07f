-- Which command may be refused for memory, by a volume or by the log, whatever the history.
use Rattle.std.specs.Prelude.{◌≡◌, ℕ, ◌+◌, ◌-◌, ◌*◌, ◌^◌, ◌<◌, ◌⊎◌, ◌&&◌, nat_lt, max, Bool, true, false, List, length, drop}
use Rattle.std.specs.List.{filter, list_any}
use Rattle.tx_events.specs.declared.event.By.{By}
use Rattle.tx_events.specs.declared.event.Event.{Event}
use Rattle.tx_events.specs.declared.refusal.Lock.{Lock}
use Rattle.tx_events.specs.declared.refusal.Lock.TheVariants as locks
use Rattle.tx_events.specs.declared.refusal.Refusal.TheVariants as refusals
use Rattle.tx_events.specs.Events.{by_of, is_of}
use Rattle.tx_events.specs.RecordSize.{records_size}
use Rattle.tx_events.specs.Running.{open_ids}
use Rattle.tx_model.specs.declared.command.Command.{Command}
use Rattle.tx_model.specs.declared.command.Command.TheVariants as commands
use Rattle.tx_model.specs.declared.reply.Reply.{Reply}
use Rattle.tx_model.specs.declared.reply.Reply.TheVariants as replies
use Rattle.tx_model.specs.declared.report.Life.{Life}
use Rattle.tx_model.specs.declared.report.Line.{Line}
use Rattle.tx_model.specs.declared.report.Step.{Step}
use Rattle.tx_model.specs.declared.report.Step.TheVariants as steps
use Rattle.life_law.specs.Facts.{has_log_fault, is_checkpoint_fault}

abbrev pub can_lack_memory : Command → Bool
can_lack_memory commands.Save = true
can_lack_memory commands.Write = true
can_lack_memory commands.Commit = true
can_lack_memory commands.Trim = true
can_lack_memory (commands.Snap name) = true
can_lack_memory (commands.Status x) = true
can_lack_memory (commands.Multi members) = true
can_lack_memory (commands.SeeMulti name multi) = true
can_lack_memory (commands.Freeze oldest) = true
can_lack_memory (commands.MultiFreeze multi) = true
can_lack_memory command = false

-- which stores a command asks; a report doesn't tell how many banks a store has
abbrev pub can_ask : Command → Lock → Bool
can_ask commands.Write (locks.Xact bank) = true
can_ask commands.Write (locks.Subtrans bank) = true
can_ask commands.Undo (locks.Xact bank) = true
can_ask commands.Commit (locks.Xact bank) = true
can_ask commands.Commit (locks.Subtrans bank) = true
can_ask commands.Abort (locks.Xact bank) = true
can_ask (commands.See name x) (locks.Xact bank) = true
can_ask (commands.See name x) (locks.Subtrans bank) = true
can_ask (commands.Status x) (locks.Xact bank) = true
can_ask (commands.Did x) (locks.Xact bank) = true
can_ask (commands.Did x) (locks.Subtrans bank) = true
can_ask (commands.Multi members) (locks.Offsets bank) = true
can_ask (commands.Multi members) (locks.Members bank) = true
can_ask (commands.SeeMulti name multi) (locks.Xact bank) = true
can_ask (commands.SeeMulti name multi) (locks.Subtrans bank) = true
can_ask (commands.SeeMulti name multi) (locks.Offsets bank) = true
can_ask (commands.SeeMulti name multi) (locks.Members bank) = true
can_ask (commands.MultiFreeze multi) (locks.Offsets bank) = true
can_ask commands.Trim (locks.Xact bank) = true
can_ask commands.Trim (locks.Subtrans bank) = true
can_ask commands.Trim (locks.Offsets bank) = true
can_ask commands.Trim (locks.Members bank) = true
can_ask command lock = false

-- which flush the log
abbrev pub can_flush : Command → Bool
can_flush commands.Commit = true
can_flush commands.Trim = true
can_flush command = false

-- and which append to it
abbrev pub can_append : Command → Bool
can_append (commands.Multi members) = true
can_append command = can_flush command

-- a checkpoint asks every store and flushes the log
abbrev pub is_page_lock : Lock → Bool
is_page_lock locks.Log = false
is_page_lock lock = true

-- a command or a checkpoint of these steps was told that the log's volume failed
abbrev pub AreLogFaults : List Line → List Step → Type 0
AreLogFaults lines steps = (has_log_fault lines ≡ true) ⊎ (list_any is_checkpoint_fault steps ≡ true)

-- the session's events of the commands before
abbrev pub own_before : By → List Event → List Event
own_before by h = filter (λ e. is_of by.session e && nat_lt (by_of e).command by.command) h

-- the length of the longest record that the command may append, in bytes. A truncation's record may come before it
abbrev pub longest_record : By → List Event → Command → ℕ
longest_record by h commands.Commit = max 25 (13 + 8 * (length (open_ids by.session (own_before by h)) - 1))
longest_record by h (commands.Multi members) = 21 + 9 * 64
longest_record by h command = 25

-- the log has no room for so many bytes more, by what it holds at the life's end
abbrev pub HasNoRoom : Life → ℕ → Type 0
HasNoRoom life size =
    (2 ^ 40 < life.end + 6 + records_size (drop (life.flushed - life.from) life.recs) + size)
    ⊎ (2 ^ 32 - 1 < records_size (drop (life.flushed - life.from) life.recs) + size)

-- What some place of a history has to bear out. An id below 3 has its answer wherever it is asked.
abbrev pub goes_by_places : Command → Reply → Bool
goes_by_places commands.Write (replies.Wrote warn ids) = true
goes_by_places commands.Write (replies.Refused (refusals.Stop next stop)) = true
goes_by_places (commands.Snap name) (replies.Snapped lists) = true
goes_by_places commands.Horizon (replies.Horizon xmin) = true
goes_by_places (commands.See name x) (replies.Seen visible) = true
goes_by_places (commands.See name x) (replies.Refused (refusals.TooOld oldest)) = true
goes_by_places (commands.Status x) (replies.Known status) = nat_lt 2 x
goes_by_places (commands.Status x) (replies.Refused (refusals.Future next)) = nat_lt 2 x
goes_by_places (commands.Status x) (replies.Refused (refusals.TooOld oldest)) = nat_lt 2 x
goes_by_places (commands.Did x) (replies.Did answer) = nat_lt 2 x.number
goes_by_places (commands.Did x) (replies.Refused (refusals.TooOld oldest)) = nat_lt 2 x.number
goes_by_places (commands.Freeze oldest) (replies.Refused (refusals.Backward now)) = true
goes_by_places (commands.Freeze oldest) (replies.Refused (refusals.TooNew limit)) = true
goes_by_places (commands.Multi pairs) (replies.Multi multi offset warn) = true
goes_by_places (commands.Multi pairs) (replies.Refused (refusals.NotGiven x)) = true
goes_by_places (commands.Multi pairs) (replies.Refused (refusals.TooOld oldest)) = true
goes_by_places (commands.Multi pairs) (replies.Refused (refusals.MultiStop next stop)) = true
goes_by_places (commands.Multi pairs) (replies.Refused (refusals.MemberStop next stop)) = true
goes_by_places (commands.SeeMulti name m) (replies.Verdicts verdicts) = true
goes_by_places (commands.SeeMulti name m) (replies.Refused (refusals.NotYet multi)) = true
goes_by_places (commands.SeeMulti name m) (replies.Refused (refusals.MultiTooOld oldest)) = true
goes_by_places (commands.SeeMulti name m) (replies.Refused (refusals.MultiFuture next)) = true
goes_by_places (commands.MultiFreeze multi) replies.Done = true
goes_by_places (commands.MultiFreeze multi) (replies.Refused (refusals.Backward now)) = true
goes_by_places (commands.MultiFreeze multi) (replies.Refused (refusals.Held limit)) = true
goes_by_places (commands.MultiFreeze multi) (replies.Refused (refusals.NotYet next)) = true
goes_by_places command reply = false
