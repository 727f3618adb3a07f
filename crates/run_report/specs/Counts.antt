-- What a run of a generated script must have done: what its commands say, where none was refused by a device, for a full
-- log or for want of memory.
use Rattle.std.specs.Prelude.{◌≡◌, ℕ, ◌≤◌, Bool, true, false, List, length, map}
use Rattle.std.specs.List.{AllByRecursion, count_by, flat_map}
use Rattle.tx_events.specs.declared.refusal.Refusal.TheVariants as refusals
use Rattle.tx_model.specs.declared.command.Command.{Command}
use Rattle.tx_model.specs.declared.command.Command.TheVariants as commands
use Rattle.tx_model.specs.declared.reply.Reply.{Reply}
use Rattle.tx_model.specs.declared.reply.Reply.TheVariants as replies
use Rattle.tx_model.specs.declared.report.LifeReport.{LifeReport}
use Rattle.tx_model.specs.Rounds.{lines_in}
use Rattle.life_law.specs.LawfulLife.{IsLawfulLife}
pub use Rattle.life_law.specs.Laws.{is_commit}
pub use Rattle.life_law.specs.Replies.{is_told_verdict}
use Rattle.session_lang.specs.declared.script.Item.{Item}
use Rattle.session_lang.specs.Rounds.{asked_of}
use Rattle.run_law.specs.Lives.{BeginsRun, new_start}
use Rattle.run_law.specs.Turns.{turns_in}
use Rattle.script_gen.specs.declared.summary.Summary.{Summary}
use Rattle.script_gen.specs.Counts.{life_summary, summary_text}
use Rattle.script_gen.specs.Generated.{generated}
use Rattle.script_gen.specs.Laws.{most_transactions}
use Rattle.script_gen.specs.Summaries.{IsSummaryOf}

-- a refusal by a device, for a full log, or for want of memory
abbrev pub is_failure : Reply → Bool
is_failure (replies.Refused refusals.Memory) = true
is_failure (replies.Refused (refusals.DiskFault lock)) = true
is_failure (replies.Refused refusals.LogFault) = true
is_failure (replies.Refused (refusals.LogDown at)) = true
is_failure (replies.Refused refusals.Full) = true
is_failure reply = false

-- ---- what a script's commands come to

abbrev pub is_write : Command → Bool
is_write commands.Write = true
is_write command = false

abbrev pub is_undo : Command → Bool
is_undo commands.Undo = true
is_undo command = false

abbrev pub is_abort : Command → Bool
is_abort commands.Abort = true
is_abort command = false

abbrev pub is_snap : Command → Bool
is_snap (commands.Snap name) = true
is_snap command = false

-- each write gives one id, each savepoint that is rolled back has one, and so has each transaction that ends
abbrev pub summary_of_commands : List Command → Summary
summary_of_commands all = record {
  commands = length all;
  ids = count_by is_write all;
  undone = count_by is_undo all;
  commits = count_by is_commit all;
  aborts = count_by is_abort all;
  snaps = count_by is_snap all;
  sees = count_by is_told_verdict all;
}

abbrev pub commands_in : List Item → List Command
commands_in script = map (λ t. t.1) (turns_in script)

-- In a lawful life of a generated script over a new log, of which no command was refused by a device, for a full log or
-- for want of memory, the history and the replies come to what the script's commands say.
abbrev pub CountsAreTheScripts : Type 0
CountsAreTheScripts =
    (tells : Bool) (banks seed size : ℕ) (r : LifeReport) → size ≤ most_transactions
    → BeginsRun (new_start (generated seed size)) r.life
    → IsLawfulLife tells banks (asked_of (generated seed size).items) r
    → AllByRecursion (λ l. is_failure l.reply ≡ false) (flat_map lines_in r.steps)
    → life_summary r ≡ summary_of_commands (commands_in (generated seed size).items)

-- so the line that is written for a run over a new log is that of the script, whatever order its threads took
abbrev pub SummariesAreTheScripts : Type 0
SummariesAreTheScripts =
    (tells : Bool) (seed size : ℕ) (text : List ℕ) → size ≤ most_transactions
    → (sum : IsSummaryOf tells (generated seed size) text) → sum.start ≡ new_start (generated seed size)
    → AllByRecursion (λ l. is_failure l.reply ≡ false) (flat_map lines_in sum.life.steps)
    → text ≡ summary_text (summary_of_commands (commands_in (generated seed size).items))
