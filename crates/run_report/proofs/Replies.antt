-- Which reply a command of a generated script gets.
use Rattle.std.proofs.Common.{◌≡◌, ℕ, ◌≤◌, false, List, Option, None, sym}
use Rattle.std.proofs.lemmas.Bool.{false≢true}
use Rattle.tx_events.specs.declared.event.By.{By}
use Rattle.tx_events.specs.declared.refusal.Refusal.{Refusal}
use Rattle.tx_events.specs.declared.refusal.Refusal.TheVariants as refusals
use Rattle.tx_model.specs.declared.command.Command.{Command}
use Rattle.tx_model.specs.declared.command.Command.TheVariants as commands
use Rattle.tx_model.specs.declared.reply.Reply.{Reply}
use Rattle.tx_model.specs.declared.reply.Reply.TheVariants as replies
use Rattle.tx_model.specs.Replies.{IsStopped, IsTooOld, MayReply, RoundSpan}
use Rattle.tx_model.specs.Stance.{Stance}
use Rattle.life_law.specs.Facts.{Facts}
use Rattle.life_law.specs.Refused.{by_standing}
use Rattle.life_law.specs.Replies.{IsLawfulReply}
use Rattle.script_gen.proofs.Ranges.{IsDrawn}
use Rattle.run_report.specs.Counts.{is_failure}

-- no id reaches its stop limit, and none that a script looks at is too old
pub record IsWide (f : Facts) : Type 0 where
  pub no_stop : (round : RoundSpan) (by : By) (next stop : ℕ) → IsStopped f.base f.events round by next stop → ⊥
  pub no_old : (round : RoundSpan) (by : By) (number : ℕ) (name : List ℕ) (x oldest : ℕ) → 3 ≤ x → x ≤ 100002 → IsTooOld f.base f.events round by number name x oldest → ⊥

-- the reply by which a command does what it says
abbrev pub IsOk : Command → Reply → Type 0
IsOk commands.Begin replies.Done = Unit {0}
IsOk commands.Save replies.Done = Unit {0}
IsOk commands.Write (replies.Wrote warn ids) = Unit {0}
IsOk commands.Release replies.Done = Unit {0}
IsOk commands.Undo replies.Done = Unit {0}
IsOk commands.Commit replies.Done = Unit {0}
IsOk commands.Abort replies.Done = Unit {0}
IsOk (commands.Snap name) (replies.Snapped lists) = Unit {0}
IsOk (commands.DropSnap name) replies.Done = Unit {0}
IsOk (commands.See name x) (replies.Seen visible) = Unit {0}
IsOk command reply = ⊥

history_ok : (f : Facts) (round : RoundSpan) (by : By) (s : Stance) (c : Command) (reply : Reply) → IsWide f → IsDrawn c → by_standing reply ≡ None → MayReply f.base f.committed f.events round by s c reply → IsOk c reply
history_ok f round by s commands.Begin replies.Done w d n m = tt
history_ok f round by s commands.Begin (replies.Refused refusals.AlreadyOpen) w d n m = absurd cc
history_ok f round by s commands.Save replies.Done w d n m = tt
history_ok f round by s commands.Save (replies.Refused refusals.NoTransaction) w d n m = absurd cc
history_ok f round by s commands.Save (replies.Refused refusals.DepthLimit) w d n m = absurd cc
history_ok f round by s commands.Write (replies.Wrote warn ids) w d n m = tt
history_ok f round by s commands.Write (replies.Refused refusals.NoTransaction) w d n m = absurd cc
history_ok f round by s commands.Write (replies.Refused (refusals.Stop next stop)) w d n m = absurd (w.no_stop round by next stop m.1)
history_ok f round by s commands.Release replies.Done w d n m = tt
history_ok f round by s commands.Release (replies.Refused refusals.NoSavepoint) w d n m = absurd cc
history_ok f round by s commands.Undo replies.Done w d n m = tt
history_ok f round by s commands.Undo (replies.Refused refusals.NoSavepoint) w d n m = absurd cc
history_ok f round by s commands.Commit replies.Done w d n m = tt
history_ok f round by s commands.Commit (replies.Refused refusals.NoTransaction) w d n m = absurd cc
history_ok f round by s commands.Abort replies.Done w d n m = tt
history_ok f round by s commands.Abort (replies.Refused refusals.NoTransaction) w d n m = absurd cc
history_ok f round by s (commands.Snap name) (replies.Snapped lists) w d n m = tt
history_ok f round by s (commands.Snap name) (replies.Refused refusals.NameTaken) w d n m = absurd cc
history_ok f round by s (commands.Snap name) (replies.Refused refusals.SnapLimit) w d n m = absurd cc
history_ok f round by s (commands.DropSnap name) replies.Done w d n m = tt
history_ok f round by s (commands.DropSnap name) (replies.Refused refusals.NoSnapshot) w d n m = absurd cc
history_ok f round by s (commands.See name x) (replies.Seen visible) w d n m = tt
history_ok f round by s (commands.See name x) (replies.Refused (refusals.TooOld oldest)) w d n m = absurd (w.no_old round by m.0 name x.number oldest d.1 d.2 m.2)
history_ok f round by s (commands.See name x) (replies.Refused refusals.NoSnapshot) w d n m = absurd cc
history_ok f round by s (commands.Status x) reply w d n m = absurd d
history_ok f round by s (commands.Did x) reply w d n m = absurd d
history_ok f round by s commands.Horizon reply w d n m = absurd d
history_ok f round by s (commands.Freeze oldest) reply w d n m = absurd d
history_ok f round by s c reply w d n m = absurd m

-- a lawful reply that isn't a failure, to a command that may come as the session stands
pub ok_reply : (f : Facts) (round : RoundSpan) (by : By) (s : Stance) (o : Option Refusal) (c : Command) (reply : Reply) → IsWide f → IsDrawn c → by_standing reply ≡ None → is_failure reply ≡ false → IsLawfulReply f round by s o c reply → IsOk c reply
ok_reply f round by s o c (replies.Refused refusals.Memory) w d n e m = absurd (false≢true (sym e))
ok_reply f round by s o c (replies.Refused (refusals.DiskFault lock)) w d n e m = absurd (false≢true (sym e))
ok_reply f round by s o c (replies.Refused refusals.LogFault) w d n e m = absurd (false≢true (sym e))
ok_reply f round by s o c (replies.Refused refusals.Full) w d n e m = absurd (false≢true (sym e))
ok_reply f round by s o c (replies.Refused (refusals.LogDown at)) w d n e m = absurd (false≢true (sym e))
ok_reply f round by s o c (replies.Refused refusals.CommitPending) w d n e m = absurd cc
ok_reply f round by s o c (replies.Refused refusals.AbortPending) w d n e m = absurd cc
ok_reply f round by s o c (replies.Refused refusals.UndoPending) w d n e m = absurd cc
ok_reply f round by s o commands.Begin (replies.Known k) w d n e m = absurd m
ok_reply f round by s o commands.Save (replies.Known k) w d n e m = absurd m
ok_reply f round by s o commands.Write (replies.Known k) w d n e m = absurd m
ok_reply f round by s o commands.Release (replies.Known k) w d n e m = absurd m
ok_reply f round by s o commands.Undo (replies.Known k) w d n e m = absurd m
ok_reply f round by s o commands.Commit (replies.Known k) w d n e m = absurd m
ok_reply f round by s o commands.Abort (replies.Known k) w d n e m = absurd m
ok_reply f round by s o (commands.Snap name) (replies.Known k) w d n e m = absurd m
ok_reply f round by s o (commands.DropSnap name) (replies.Known k) w d n e m = absurd m
ok_reply f round by s o (commands.See name x) (replies.Known k) w d n e m = absurd m
ok_reply f round by s o commands.Trim (replies.Known k) w d n e m = absurd d
ok_reply f round by s o commands.Horizon (replies.Known k) w d n e m = absurd d
ok_reply f round by s o (commands.Status x) (replies.Known k) w d n e m = absurd d
ok_reply f round by s o (commands.Did x) (replies.Known k) w d n e m = absurd d
ok_reply f round by s o (commands.Multi members) (replies.Known k) w d n e m = absurd d
ok_reply f round by s o (commands.SeeMulti name multi) (replies.Known k) w d n e m = absurd d
ok_reply f round by s o (commands.Freeze oldest) (replies.Known k) w d n e m = absurd d
ok_reply f round by s o (commands.MultiFreeze multi) (replies.Known k) w d n e m = absurd d
ok_reply f round by s o commands.Begin (replies.Did k) w d n e m = absurd m
ok_reply f round by s o commands.Save (replies.Did k) w d n e m = absurd m
ok_reply f round by s o commands.Write (replies.Did k) w d n e m = absurd m
ok_reply f round by s o commands.Release (replies.Did k) w d n e m = absurd m
ok_reply f round by s o commands.Undo (replies.Did k) w d n e m = absurd m
ok_reply f round by s o commands.Commit (replies.Did k) w d n e m = absurd m
ok_reply f round by s o commands.Abort (replies.Did k) w d n e m = absurd m
ok_reply f round by s o (commands.Snap name) (replies.Did k) w d n e m = absurd m
ok_reply f round by s o (commands.DropSnap name) (replies.Did k) w d n e m = absurd m
ok_reply f round by s o (commands.See name x) (replies.Did k) w d n e m = absurd m
ok_reply f round by s o commands.Trim (replies.Did k) w d n e m = absurd d
ok_reply f round by s o commands.Horizon (replies.Did k) w d n e m = absurd d
ok_reply f round by s o (commands.Status x) (replies.Did k) w d n e m = absurd d
ok_reply f round by s o (commands.Did x) (replies.Did k) w d n e m = absurd d
ok_reply f round by s o (commands.Multi members) (replies.Did k) w d n e m = absurd d
ok_reply f round by s o (commands.SeeMulti name multi) (replies.Did k) w d n e m = absurd d
ok_reply f round by s o (commands.Freeze oldest) (replies.Did k) w d n e m = absurd d
ok_reply f round by s o (commands.MultiFreeze multi) (replies.Did k) w d n e m = absurd d
ok_reply f round by s o (commands.See name x) (replies.Seen visible) w d n e m = tt
ok_reply f round by s o c (replies.Seen visible) w d n e m = absurd (false≢true m.0)
ok_reply f round by s o c reply w d n e m = history_ok f round by s c reply w d n m
