-- Which end of a session is pending, by its lines: a commit, an abort or an undo that a fault met, and that wasn't gone
-- on with to its end.
use Rattle.std.specs.Prelude.{ℕ, ◌==◌, Bool, false, List, [], ◌∷◌, Option, None, Some, cond, ◌≡◌, IsTrue, Contains}
use Rattle.std.specs.List.{filter, list_any}
use Rattle.tx_events.specs.declared.event.Event.{Event}
use Rattle.tx_events.specs.declared.record.Rec.{Rec}
use Rattle.tx_events.specs.declared.record.Rec.TheVariants as records
use Rattle.tx_events.specs.declared.refusal.Lock.TheVariants as locks
use Rattle.tx_events.specs.declared.refusal.Refusal.{Refusal}
use Rattle.tx_events.specs.declared.refusal.Refusal.TheVariants as refusals
use Rattle.tx_events.specs.Events.{events_of, given}
use Rattle.tx_events.specs.Running.{open_ids}
use Rattle.tx_model.specs.declared.command.Command.{Command}
use Rattle.tx_model.specs.declared.command.Command.TheVariants as commands
use Rattle.tx_model.specs.declared.reply.Reply.{Reply}
use Rattle.tx_model.specs.declared.reply.Reply.TheVariants as replies
use Rattle.tx_model.specs.declared.report.Line.{Line}
use Rattle.tx_model.specs.Lines.{is_line_of, stance}
use Rattle.tx_model.specs.Stance.{Stance, after, nothing_yet, top_level}

-- the record is the commit of this top
abbrev pub is_commit_of : ℕ → Rec → Bool
is_commit_of id (records.Commit top subs) = top == id
is_commit_of id _ = false

-- the life has a commit record of this top
abbrev pub is_recorded : List Rec → Option ℕ → Bool
is_recorded recs None = false
is_recorded recs (Some top) = list_any (is_commit_of top) recs

-- What is pending behind a command that was answered so, told by the refusal that it brings. A commit that met a fault
-- of the log has its record there, in doubt; one that a log that is down refused has it or hasn't.
abbrev pub pending_after : List Rec → Stance → Option Refusal → Command → Reply → Option Refusal
pending_after recs s old commands.Commit replies.Done = None
pending_after recs s old commands.Commit (replies.Refused refusals.LogFault) = Some refusals.CommitPending
pending_after recs s old commands.Commit (replies.Refused (refusals.DiskFault (locks.Xact bank))) = Some refusals.CommitPending
pending_after recs s old commands.Commit (replies.Refused (refusals.LogDown at)) =
    cond (is_recorded recs (top_level s.levels)) (Some refusals.CommitPending) old
pending_after recs s old commands.Abort replies.Done = None
pending_after recs s old commands.Abort (replies.Refused (refusals.DiskFault lock)) = Some refusals.AbortPending
pending_after recs s old commands.Undo replies.Done = None
pending_after recs s old commands.Undo (replies.Refused (refusals.DiskFault lock)) = Some refusals.UndoPending
pending_after recs s old command reply = old

-- behind these lines of a session that stood so before them
abbrev pub pending_from : List Rec → List Event → Stance → Option Refusal → List Line → Option Refusal
pending_from recs h s old [] = old
pending_from recs h s old (l ∷ lines) =
    pending_from recs h (after s l.by.command l.command l.reply (given (events_of l.by h)))
    (pending_after recs s old l.command l.reply) lines

-- what is pending of a session after the lines before
abbrev pub pending : List Rec → List Event → List Line → ℕ → Option Refusal
pending recs h before session = pending_from recs h nothing_yet None (filter (is_line_of session) before)

-- What stands in the log of a transaction that a session has open: its commit record where a commit is pending by its
-- lines, and there alone; an abort record only where an abort is.
pub record IsOpenAsTold (recs : List Rec) (h : List Event) (lines : List Line) (session : ℕ) : Type 0 where
  pub commit : (top : ℕ) (subs : List ℕ) → Contains recs (records.Commit top subs)
      → open_ids session h ≡ top ∷ subs → pending recs h lines session ≡ Some refusals.CommitPending
  pub abort : (top : ℕ) (subs : List ℕ) → Contains recs (records.Abort top subs)
      → open_ids session h ≡ top ∷ subs → pending recs h lines session ≡ Some refusals.AbortPending
  pub recorded : pending recs h lines session ≡ Some refusals.CommitPending
      → IsTrue (is_recorded recs (top_level (stance h lines session).levels))
