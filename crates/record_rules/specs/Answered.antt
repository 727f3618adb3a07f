-- What the last commit and the last abort of a session were answered.
use Rattle.std.specs.Prelude.{◌≡◌, ℕ, ◌<◌, Bool, true, false, List, Option, Some, None, length}
use Rattle.std.specs.List.{HoldsAt}
use Rattle.tx_events.specs.declared.refusal.Refusal.TheVariants as refusals
use Rattle.tx_events.specs.declared.xact_end.XactEnd.{XactEnd}
use Rattle.tx_events.specs.declared.xact_end.XactEnd.TheVariants as ends
use Rattle.tx_model.specs.declared.command.Command.{Command}
use Rattle.tx_model.specs.declared.command.Command.TheVariants as commands
use Rattle.tx_model.specs.declared.reply.Reply.{Reply}
use Rattle.tx_model.specs.declared.reply.Reply.TheVariants as replies
use Rattle.tx_model.specs.declared.report.Line.{Line}
use Rattle.report_law.specs.Records.{is_abort, is_commit, last_answer}
use Rattle.record_rules.specs.declared.answers.Answers.{Answers}

abbrev pub is_not_done : Reply → Bool
is_not_done replies.Done = false
is_not_done reply = true

abbrev pub is_disk_fault : Reply → Bool
is_disk_fault (replies.Refused (refusals.DiskFault lock)) = true
is_disk_fault reply = false

abbrev pub was_told : (Reply → Bool) → Option Reply → Bool
was_told is None = false
was_told is (Some reply) = is reply

-- whether the log may have a record of the transaction that a session has open, by its last commit or abort
abbrev pub may_have : XactEnd → List Line → ℕ → Bool
may_have ends.Commit lines session = was_told is_not_done (last_answer is_commit lines session)
may_have ends.Abort lines session = was_told is_disk_fault (last_answer is_abort lines session)

pub record IsAnswered (lines : List Line) (session : ℕ) (a : Answers) : Type 0 where
  pub commit : a.commit ≡ may_have ends.Commit lines session
  pub abort : a.abort ≡ may_have ends.Abort lines session

-- of 64 sessions
pub record AreAnswers (lines : List Line) (answers : List Answers) : Type 0 where
  pub size : length answers ≡ 64
  pub each : (s : ℕ) → s < 64 → HoldsAt (IsAnswered lines s) answers s

-- what one line more leaves
abbrev pub commit_after : Bool → Command → Reply → Bool
commit_after old commands.Commit reply = is_not_done reply
commit_after old command reply = old

abbrev pub abort_after : Bool → Command → Reply → Bool
abort_after old commands.Abort reply = is_disk_fault reply
abort_after old command reply = old
