-- Commands, refusals and replies of one word.
use Rattle.tx_events.specs.declared.refusal.Refusal.{Refusal}
use Rattle.tx_events.specs.declared.refusal.Refusal.TheVariants as refusals
use Rattle.tx_model.specs.declared.command.Command.{Command}
use Rattle.tx_model.specs.declared.command.Command.TheVariants as commands
use Rattle.tx_model.specs.declared.reply.Reply.{Reply}
use Rattle.tx_model.specs.declared.reply.Reply.TheVariants as replies
use Rattle.tx_model.specs.declared.brief.Word.{Word}
use Rattle.tx_model.specs.declared.brief.Word.TheVariants as words
use Rattle.tx_model.specs.declared.brief.WordRefusal.{WordRefusal}
use Rattle.tx_model.specs.declared.brief.WordRefusal.TheVariants as word_refusals
use Rattle.tx_model.specs.declared.brief.Brief.{Brief}
use Rattle.tx_model.specs.declared.brief.Brief.TheVariants as briefs

abbrev pub command_of : Word → Command
command_of words.Begin = commands.Begin
command_of words.Save = commands.Save
command_of words.Write = commands.Write
command_of words.Release = commands.Release
command_of words.Undo = commands.Undo
command_of words.Commit = commands.Commit
command_of words.Abort = commands.Abort
command_of words.Trim = commands.Trim
command_of words.Horizon = commands.Horizon

abbrev pub refusal_of : WordRefusal → Refusal
refusal_of word_refusals.AlreadyOpen = refusals.AlreadyOpen
refusal_of word_refusals.NoTransaction = refusals.NoTransaction
refusal_of word_refusals.NoSavepoint = refusals.NoSavepoint
refusal_of word_refusals.DepthLimit = refusals.DepthLimit
refusal_of word_refusals.CommitPending = refusals.CommitPending
refusal_of word_refusals.AbortPending = refusals.AbortPending
refusal_of word_refusals.UndoPending = refusals.UndoPending
refusal_of word_refusals.LogFault = refusals.LogFault
refusal_of word_refusals.Full = refusals.Full
refusal_of word_refusals.NameTaken = refusals.NameTaken
refusal_of word_refusals.SnapLimit = refusals.SnapLimit
refusal_of word_refusals.NoSnapshot = refusals.NoSnapshot
refusal_of word_refusals.TwoUpdaters = refusals.TwoUpdaters
refusal_of word_refusals.MemberCount = refusals.MemberCount
refusal_of word_refusals.MultiPending = refusals.MultiPending
refusal_of word_refusals.Memory = refusals.Memory

abbrev pub reply_of : Brief → Reply
reply_of briefs.Done = replies.Done
reply_of (briefs.Seen visible) = replies.Seen visible
reply_of (briefs.Known status) = replies.Known status
reply_of (briefs.Did did) = replies.Did did
reply_of (briefs.Refused refusal) = replies.Refused (refusal_of refusal)
