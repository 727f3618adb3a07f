-- What refusals by the log go by.
use Rattle.std.specs.Prelude.{◌≡◌, ◌↔◌, ℕ, ◌+◌, ◌-◌, ◌*◌, ◌^◌, min, max, IsTrue, Bool, true, false}
use Rattle.tx_events.specs.declared.refusal.Refusal.{Refusal}
use Rattle.tx_events.specs.declared.refusal.Refusal.TheVariants as refusals
use Rattle.tx_model.specs.declared.command.Command.{Command}
use Rattle.tx_model.specs.declared.command.Command.TheVariants as commands
use Rattle.report_law.specs.Answers.{AreLogFaults}
use Rattle.report_law.specs.Steps.{Judged, lines_of}
use Rattle.reply_rules.specs.declared.refusals.LogEnd.{LogEnd}
use Rattle.reply_rules.specs.Rooms.{IsRoomOf}

pub record IsLogEnd (j : Judged) (e : LogEnd) : Type 0 where
  pub room_is : IsRoomOf j.life e.room
  pub flushed_is : e.flushed ≡ j.life.flushed
  pub failed_is : IsTrue e.failed ↔ AreLogFaults (lines_of j) j.steps

-- the refusals for want of memory, for faults and by the log, but for a commit's that the log is full
abbrev pub goes_by_log : Command → Refusal → Bool
goes_by_log command refusals.Memory = true
goes_by_log command (refusals.DiskFault lock) = true
goes_by_log command refusals.LogFault = true
goes_by_log command (refusals.LogDown at) = true
goes_by_log commands.Commit refusals.Full = false
goes_by_log command refusals.Full = true
goes_by_log command refusal = false

-- the longest record of a command that is no commit
abbrev pub multi_size : Command → ℕ
multi_size (commands.Multi members) = 597
multi_size command = 25

-- that of a commit of so many open ids, of more than 2^64 - 1 bytes this number
abbrev pub commit_size : ℕ → ℕ
commit_size ids = min (max 25 (13 + 8 * (ids - 1))) (2 ^ 64 - 1)
