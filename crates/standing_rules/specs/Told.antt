-- What lines leave pending, by how they were answered.
use Rattle.std.specs.Prelude.{Bool, true, false, cond, Option, Some, None}
use Rattle.tx_events.specs.declared.refusal.Lock.TheVariants as locks
use Rattle.tx_events.specs.declared.refusal.Refusal.{Refusal}
use Rattle.tx_events.specs.declared.refusal.Refusal.TheVariants as refusals
use Rattle.tx_model.specs.declared.reply.Reply.{Reply}
use Rattle.tx_model.specs.declared.reply.Reply.TheVariants as replies
use Rattle.report_law.specs.Standing.{none, perhaps, sure}
use Rattle.report_law.specs.Standing.{Unfinished as Told}
use Rattle.standing_rules.specs.declared.pending.Unfinished.{Unfinished}
use Rattle.standing_rules.specs.declared.pending.Unfinished.TheVariants as unfinished

abbrev pub told_of : Unfinished → Told
told_of unfinished.Nothing = none
told_of unfinished.Perhaps = perhaps
told_of unfinished.Sure = sure

-- a commit, whose record stands in the log or doesn't
abbrev pub logged_after : Bool → Option Refusal → Reply → Option Refusal
logged_after recorded old replies.Done = None
logged_after recorded old (replies.Refused refusals.LogFault) = Some refusals.CommitPending
logged_after recorded old (replies.Refused (refusals.DiskFault (locks.Xact bank))) = Some refusals.CommitPending
logged_after recorded old (replies.Refused (refusals.LogDown at)) = cond recorded (Some refusals.CommitPending) old
logged_after recorded old reply = old

-- an abort or an undo, which brings this refusal where a volume failed
abbrev pub ended_after : Option Refusal → Refusal → Reply → Option Refusal
ended_after old failed replies.Done = None
ended_after old failed (replies.Refused (refusals.DiskFault lock)) = Some failed
ended_after old failed reply = old

-- the refusals by how a session stands and by a multixact's members, which tell no numbers
abbrev pub is_bare : Refusal → Bool
is_bare refusals.AlreadyOpen = true
is_bare refusals.NoTransaction = true
is_bare refusals.NoSavepoint = true
is_bare refusals.DepthLimit = true
is_bare refusals.CommitPending = true
is_bare refusals.AbortPending = true
is_bare refusals.UndoPending = true
is_bare refusals.NameTaken = true
is_bare refusals.SnapLimit = true
is_bare refusals.NoSnapshot = true
is_bare refusals.MemberCount = true
is_bare refusals.TwoUpdaters = true
is_bare refusal = false
