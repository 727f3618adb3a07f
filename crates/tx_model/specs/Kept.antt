-- Commands and replies, by how a report keeps them.
use Rattle.std.specs.Prelude.{◌∷◌, []}
use Rattle.tx_model.specs.declared.command.Command.{Command}
use Rattle.tx_model.specs.declared.command.Command.TheVariants as commands
use Rattle.tx_model.specs.declared.reply.Reply.{Reply}
use Rattle.tx_model.specs.declared.reply.Reply.TheVariants as replies
use Rattle.tx_model.specs.Brief.{refusal_of}
use Rattle.tx_model.specs.declared.kept_command.KeptCommand.{KeptCommand}
use Rattle.tx_model.specs.declared.kept_command.KeptCommand.TheVariants as kept_commands
use Rattle.tx_model.specs.declared.kept_reply.KeptReply.{KeptReply}
use Rattle.tx_model.specs.declared.kept_reply.KeptReply.TheVariants as kept_replies

abbrev pub command_in : KeptCommand → Command
command_in kept_commands.Begin = commands.Begin
command_in kept_commands.Save = commands.Save
command_in kept_commands.Write = commands.Write
command_in kept_commands.Release = commands.Release
command_in kept_commands.Undo = commands.Undo
command_in kept_commands.Commit = commands.Commit
command_in kept_commands.Abort = commands.Abort
command_in kept_commands.Trim = commands.Trim
command_in kept_commands.Horizon = commands.Horizon
command_in (kept_commands.Snap name) = commands.Snap name
command_in (kept_commands.DropSnap name) = commands.DropSnap name
command_in (kept_commands.See name x) = commands.See name x
command_in (kept_commands.Status x) = commands.Status x
command_in (kept_commands.Did x) = commands.Did x
command_in (kept_commands.SeeMulti name multi) = commands.SeeMulti name multi
command_in (kept_commands.Freeze oldest) = commands.Freeze oldest
command_in (kept_commands.MultiFreeze multi) = commands.MultiFreeze multi
command_in (kept_commands.Long command) = command.value

abbrev pub reply_in : KeptReply → Reply
reply_in kept_replies.Done = replies.Done
reply_in (kept_replies.WroteNothing warn) = replies.Wrote warn []
reply_in (kept_replies.Wrote warn id) = replies.Wrote warn (id ∷ [])
reply_in (kept_replies.Horizon oldest_xmin) = replies.Horizon oldest_xmin
reply_in (kept_replies.Refused refusal) = replies.Refused (refusal_of refusal)
reply_in (kept_replies.RefusedLong refusal) = replies.Refused refusal.value
reply_in (kept_replies.Long reply) = reply.value
