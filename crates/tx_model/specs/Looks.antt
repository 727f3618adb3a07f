-- Commands and replies that are looked at.
use Rattle.tx_model.specs.declared.command.Command.{Command}
use Rattle.tx_model.specs.declared.reply.Reply.{Reply}
use Rattle.tx_model.specs.declared.kept_command.Looked as command_looks
use Rattle.tx_model.specs.declared.kept_reply.Looked as reply_looks

abbrev pub command_seen : command_looks.Looked → Command
command_seen (command_looks.TheVariants.Made command) = command
command_seen (command_looks.TheVariants.Lent command) = command.now

abbrev pub reply_seen : reply_looks.Looked → Reply
reply_seen (reply_looks.TheVariants.Made reply) = reply
reply_seen (reply_looks.TheVariants.Lent reply) = reply.now
