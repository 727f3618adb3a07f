-- What is pending behind a command is what its reply says.
use Rattle.std.proofs.Common.{◌≡◌, ◌⊎◌, ℕ, Bool, true, false, List, Option, Some, IsTrue, ap, cond, refl, sym, subst, ◌∙◌, ⊎_elim}
use Rattle.std.proofs.lemmas.Bool.{false≢true}
use Rattle.tx_events.specs.declared.event.By.{By}
use Rattle.tx_events.specs.declared.record.Rec.{Rec}
use Rattle.tx_events.specs.declared.refusal.Lock.TheVariants as locks
use Rattle.tx_events.specs.declared.refusal.Refusal.{Refusal}
use Rattle.tx_events.specs.declared.refusal.Refusal.TheVariants as refusals
use Rattle.tx_model.specs.declared.command.Command.{Command}
use Rattle.tx_model.specs.declared.command.Command.TheVariants as commands
use Rattle.tx_model.specs.declared.reply.Reply.{Reply}
use Rattle.tx_model.specs.declared.reply.Reply.TheVariants as replies
use Rattle.tx_model.specs.Stance.{Stance, after, top_level}
use Rattle.life_law.specs.Pending.{is_recorded, pending_after}
use Rattle.tx_core.specs.declared.entry.Entry.{Entry}
use Rattle.tx_core.specs.declared.entry.Start.{Start}
use Rattle.engine_parts.specs.declared.session.Stage.{Stage}
use Rattle.engine_parts.specs.declared.session.Stage.TheVariants as stages
use Rattle.engine_parts.specs.Stages.{may_be_recorded, pending_in}
use Rattle.engine_parts.specs.Standing.{IsLeftAt, IsLeftBy, IsLoggedFrom, LeavesStage, is_unflushed}
use Rattle.life_law.specs.Refused.{is_by_standing}
use Rattle.session_promise.specs.Promise.{IsToAsker, MayAnswerIn}
use Rattle.session_promise.specs.Told.{Span}

-- whether the log has a commit record of the session's top
abbrev pub IsKnownOf : List Rec → Stance → Stage → Type 0
IsKnownOf recs s stage = is_recorded recs (top_level s.levels) ≡ may_be_recorded stage

-- where a commit was refused by a log that is down
down_follows : (recs : List Rec) (s : Stance) (old new : Stage) → IsTrue (is_unflushed s old) → IsKnownOf recs s new → (new ≡ old) ⊎ IsLoggedFrom old new → cond (is_recorded recs (top_level s.levels)) (Some refusals.CommitPending) (pending_in old) ≡ pending_in new
down_follows recs s old new unflushed known left = ap (λ b. cond b (Some refusals.CommitPending) (pending_in old)) known ∙ ⊎_elim (same old) (logged old) left
  where
    same : (old : Stage) → new ≡ old → cond (may_be_recorded new) (Some refusals.CommitPending) (pending_in old) ≡ pending_in new
    same old q = subst (λ x. cond (may_be_recorded x) (Some refusals.CommitPending) (pending_in old) ≡ pending_in x) (sym q) (each old)
      where
        each : (x : Stage) → cond (may_be_recorded x) (Some refusals.CommitPending) (pending_in x) ≡ pending_in x
        each stages.Clear = refl
        each (stages.Logged number) = refl
        each (stages.Settling steps) = refl
        each stages.Aborting = refl
        each stages.Undoing = refl

    now : (x : Stage) (o : Option Refusal) (number : ℕ) → x ≡ stages.Logged number → cond (may_be_recorded x) (Some refusals.CommitPending) o ≡ pending_in x
    now x o number q = subst (λ y. cond (may_be_recorded y) (Some refusals.CommitPending) o ≡ pending_in y) (sym q) refl

    logged : (old : Stage) → IsLoggedFrom old new → cond (may_be_recorded new) (Some refusals.CommitPending) (pending_in old) ≡ pending_in new
    logged stages.Clear l = now new (pending_in stages.Clear) l.1 l.2
    logged (stages.Logged number) l = now new (pending_in (stages.Logged number)) number l
    logged (stages.Settling steps) l = now new (pending_in (stages.Settling steps)) l.1 l.2
    logged stages.Aborting l = now new (pending_in stages.Aborting) l.1 l.2
    logged stages.Undoing l = now new (pending_in stages.Undoing) l.1 l.2

fault_follows : (old new : Stage) → IsLoggedFrom old new → Some refusals.CommitPending ≡ pending_in new
fault_follows stages.Clear new l = sym (ap pending_in l.2)
fault_follows (stages.Logged number) new l = sym (ap pending_in l)
fault_follows (stages.Settling steps) new l = sym (ap pending_in l.2)
fault_follows stages.Aborting new l = sym (ap pending_in l.2)
fault_follows stages.Undoing new l = sym (ap pending_in l.2)

same_follows : (old new : Stage) → new ≡ old → pending_in old ≡ pending_in new
same_follows old new q = ap pending_in (sym q)

either_left : (b : Bool) (command : Command) (refusal : Refusal) (old new : Stage) → (IsLeftAt command refusal old new → new ≡ old) → IsLeftBy b command refusal old new → new ≡ old
either_left true command refusal old new f l = l
either_left false command refusal old new f l = f l

-- by the reply and the stages
pub by_reply : (tells : Bool) (start : Start) (begun lists : List (List Entry)) (span : Span) (by : By) (recs : List Rec) (s s' : Stance) (old new : Stage) (command : Command) (reply : Reply) (ids : List ℕ)
    → MayAnswerIn tells start begun lists span by s old command reply → IsToAsker command reply → LeavesStage command reply old new → after s by.command command reply ids ≡ s' → IsKnownOf recs s' new → pending_after recs s (pending_in old) command reply ≡ pending_in new
by_reply tells start begun lists span by recs s s' old new commands.Commit replies.Done ids a o l f k = sym (ap pending_in l)
by_reply tells start begun lists span by recs s s' old new commands.Commit (replies.Refused refusals.LogFault) ids a o l f k = fault_follows old new l
by_reply tells start begun lists span by recs s s' old new commands.Commit (replies.Refused (refusals.DiskFault (locks.Xact bank))) ids a o l f k = sym (ap pending_in l.2)
by_reply tells start begun lists span by recs s s' old new commands.Commit (replies.Refused (refusals.LogDown down)) ids a o l f k = down_follows recs s old new a.0 (subst (λ z. IsKnownOf recs z new) (sym f) k) l
by_reply tells start begun lists span by recs s s' old new commands.Commit (replies.Refused refusal) ids a o l f k = same_follows old new l
by_reply tells start begun lists span by recs s s' old new commands.Commit (replies.Seen visible) ids a o l f k = absurd (false≢true o)
by_reply tells start begun lists span by recs s s' old new commands.Commit reply ids a o l f k = absurd a
by_reply tells start begun lists span by recs s s' old new commands.Abort replies.Done ids a o l f k = sym (ap pending_in l)
by_reply tells start begun lists span by recs s s' old new commands.Abort (replies.Refused (refusals.DiskFault lock)) ids a o l f k = sym (ap pending_in l)
by_reply tells start begun lists span by recs s s' old new commands.Abort (replies.Refused refusals.AlreadyOpen) ids a o l f k = same_follows old new l
by_reply tells start begun lists span by recs s s' old new commands.Abort (replies.Refused refusals.NoTransaction) ids a o l f k = same_follows old new l
by_reply tells start begun lists span by recs s s' old new commands.Abort (replies.Refused refusals.NoSavepoint) ids a o l f k = same_follows old new l
by_reply tells start begun lists span by recs s s' old new commands.Abort (replies.Refused refusals.DepthLimit) ids a o l f k = same_follows old new l
by_reply tells start begun lists span by recs s s' old new commands.Abort (replies.Refused refusals.CommitPending) ids a o l f k = same_follows old new l
by_reply tells start begun lists span by recs s s' old new commands.Abort (replies.Refused refusals.AbortPending) ids a o l f k = same_follows old new l
by_reply tells start begun lists span by recs s s' old new commands.Abort (replies.Refused refusals.UndoPending) ids a o l f k = same_follows old new l
by_reply tells start begun lists span by recs s s' old new commands.Abort (replies.Refused refusals.NameTaken) ids a o l f k = same_follows old new l
by_reply tells start begun lists span by recs s s' old new commands.Abort (replies.Refused refusals.SnapLimit) ids a o l f k = same_follows old new l
by_reply tells start begun lists span by recs s s' old new commands.Abort (replies.Refused refusals.NoSnapshot) ids a o l f k = same_follows old new l
by_reply tells start begun lists span by recs s s' old new commands.Abort (replies.Refused refusals.Memory) ids a o l f k = absurd (false≢true a)
by_reply tells start begun lists span by recs s s' old new commands.Abort (replies.Refused refusals.Full) ids a o l f k = absurd (false≢true a)
by_reply tells start begun lists span by recs s s' old new commands.Abort (replies.Refused refusals.LogFault) ids a o l f k = absurd (false≢true a.0)
by_reply tells start begun lists span by recs s s' old new commands.Abort (replies.Refused (refusals.LogDown down)) ids a o l f k = absurd (false≢true a.0)
by_reply tells start begun lists span by recs s s' old new commands.Abort (replies.Seen visible) ids a o l f k = absurd (false≢true o)
by_reply tells start begun lists span by recs s s' old new commands.Abort reply ids a o l f k = absurd a
by_reply tells start begun lists span by recs s s' old new commands.Undo replies.Done ids a o l f k = sym (ap pending_in l)
by_reply tells start begun lists span by recs s s' old new commands.Undo (replies.Refused (refusals.DiskFault lock)) ids a o l f k = sym (ap pending_in l)
by_reply tells start begun lists span by recs s s' old new commands.Undo (replies.Refused refusals.AlreadyOpen) ids a o l f k = same_follows old new l
by_reply tells start begun lists span by recs s s' old new commands.Undo (replies.Refused refusals.NoTransaction) ids a o l f k = same_follows old new l
by_reply tells start begun lists span by recs s s' old new commands.Undo (replies.Refused refusals.NoSavepoint) ids a o l f k = same_follows old new l
by_reply tells start begun lists span by recs s s' old new commands.Undo (replies.Refused refusals.DepthLimit) ids a o l f k = same_follows old new l
by_reply tells start begun lists span by recs s s' old new commands.Undo (replies.Refused refusals.CommitPending) ids a o l f k = same_follows old new l
by_reply tells start begun lists span by recs s s' old new commands.Undo (replies.Refused refusals.AbortPending) ids a o l f k = same_follows old new l
by_reply tells start begun lists span by recs s s' old new commands.Undo (replies.Refused refusals.UndoPending) ids a o l f k = same_follows old new l
by_reply tells start begun lists span by recs s s' old new commands.Undo (replies.Refused refusals.NameTaken) ids a o l f k = same_follows old new l
by_reply tells start begun lists span by recs s s' old new commands.Undo (replies.Refused refusals.SnapLimit) ids a o l f k = same_follows old new l
by_reply tells start begun lists span by recs s s' old new commands.Undo (replies.Refused refusals.NoSnapshot) ids a o l f k = same_follows old new l
by_reply tells start begun lists span by recs s s' old new commands.Undo (replies.Refused refusals.Memory) ids a o l f k = absurd (false≢true a)
by_reply tells start begun lists span by recs s s' old new commands.Undo (replies.Refused refusals.Full) ids a o l f k = absurd (false≢true a)
by_reply tells start begun lists span by recs s s' old new commands.Undo (replies.Refused refusals.LogFault) ids a o l f k = absurd (false≢true a.0)
by_reply tells start begun lists span by recs s s' old new commands.Undo (replies.Refused (refusals.LogDown down)) ids a o l f k = absurd (false≢true a.0)
by_reply tells start begun lists span by recs s s' old new commands.Undo (replies.Seen visible) ids a o l f k = absurd (false≢true o)
by_reply tells start begun lists span by recs s s' old new commands.Undo reply ids a o l f k = absurd a
by_reply tells start begun lists span by recs s s' old new command (replies.Refused refusal) ids a o l f k = same_follows old new (either_left (is_by_standing refusal) command refusal old new (λ j. j) l)
by_reply tells start begun lists span by recs s s' old new command reply ids a o l f k = same_follows old new l
