-- What a command may be answered, whichever it is, and what the log has of it.
use Rattle.std.specs.Prelude.{ℕ, IsTrue, List, Option, Contains}
use Rattle.tx_events.specs.declared.event.By.{By}
use Rattle.tx_events.specs.declared.multi.Member.{Member}
use Rattle.tx_events.specs.declared.record.Rec.TheVariants as records
use Rattle.tx_events.specs.declared.refusal.Refusal.{Refusal}
use Rattle.tx_events.specs.declared.refusal.Refusal.TheVariants as refusals
use Rattle.tx_model.specs.declared.command.Command.{Command}
use Rattle.tx_model.specs.declared.command.Command.TheVariants as commands
use Rattle.tx_model.specs.declared.reply.Reply.{Reply}
use Rattle.tx_model.specs.declared.reply.Reply.TheVariants as replies
use Rattle.tx_model.specs.declared.report.Line.{Line}
use Rattle.tx_model.specs.Replies.{RoundSpan}
use Rattle.tx_model.specs.Stance.{Stance}
use Rattle.life_law.specs.Facts.{Facts}
use Rattle.life_law.specs.MultiLines.{IsNotYet}
use Rattle.life_law.specs.MultiReplies.{MayReplyMulti}
use Rattle.life_law.specs.MultiStanding.{gave_multi}
use Rattle.life_law.specs.Replies.{IsLawfulReply}

-- A command on multixacts, behind these lines and in a round with these places among both histories: its devices, the log
-- and memory may refuse it as any other, and else its reply goes by the histories.
abbrev pub IsLawfulMultiReply : Facts → List Line → RoundSpan → RoundSpan → By → Stance → Option Refusal → Command → Reply → Type 0
IsLawfulMultiReply f before round multis by s pending command (replies.Refused refusals.Memory) =
    IsLawfulReply f round by s pending command (replies.Refused refusals.Memory)
IsLawfulMultiReply f before round multis by s pending command (replies.Refused (refusals.DiskFault lock)) =
    IsLawfulReply f round by s pending command (replies.Refused (refusals.DiskFault lock))
IsLawfulMultiReply f before round multis by s pending command (replies.Refused refusals.LogFault) =
    IsLawfulReply f round by s pending command (replies.Refused refusals.LogFault)
IsLawfulMultiReply f before round multis by s pending command (replies.Refused refusals.Full) =
    IsLawfulReply f round by s pending command (replies.Refused refusals.Full)
IsLawfulMultiReply f before round multis by s pending command (replies.Refused (refusals.LogDown at)) =
    IsLawfulReply f round by s pending command (replies.Refused (refusals.LogDown at))
IsLawfulMultiReply f before round multis by s pending command reply =
    MayReplyMulti (IsTrue f.tells) (IsNotYet f.base f.recorded f.multis multis (gave_multi before) by) f.base f.committed
    f.recorded f.events f.multis round multis by s command reply

abbrev pub IsLawfulAnswer : Facts → List Line → RoundSpan → RoundSpan → By → Stance → Option Refusal → Command → Reply → Type 0
IsLawfulAnswer f before round multis by s pending (commands.Multi pairs) reply =
    IsLawfulMultiReply f before round multis by s pending (commands.Multi pairs) reply
IsLawfulAnswer f before round multis by s pending (commands.SeeMulti name m) reply =
    IsLawfulMultiReply f before round multis by s pending (commands.SeeMulti name m) reply
IsLawfulAnswer f before round multis by s pending (commands.MultiFreeze multi) reply =
    IsLawfulMultiReply f before round multis by s pending (commands.MultiFreeze multi) reply
IsLawfulAnswer f before round multis by s pending commands.Trim reply =
    IsLawfulMultiReply f before round multis by s pending commands.Trim reply
IsLawfulAnswer f before round multis by s pending command reply = IsLawfulReply f round by s pending command reply

-- a multixact that was given with `ok` has its record
abbrev pub IsLogged : Facts → Reply → Type 0
IsLogged f (replies.Multi multi offset warn) = (members : List Member) × Contains f.recs (records.Multi multi offset members)
IsLogged f reply = Unit {0}
