-- Commands and their replies, by how a report keeps them.
use Rattle.std.specs.Prelude.{◌≡◌}
use Rattle.tx_events.specs.SharedSnaps.{idle_data}
use Rattle.tx_model.specs.declared.command.Command.{Command}
use Rattle.tx_model.specs.declared.command.Command.TheVariants as commands
use Rattle.tx_model.specs.declared.reply.Reply.{Reply}
use Rattle.tx_model.specs.declared.reply.Reply.TheVariants as replies
use Rattle.tx_model.specs.declared.exchange.Exchange.{Exchange}
use Rattle.tx_model.specs.declared.exchange.Exchange.TheVariants as exchanges
use Rattle.tx_model.specs.Brief.{command_of, reply_of}
use Rattle.tx_model.specs.Kept.{command_in, reply_in}

abbrev pub command_said : Exchange → Command
command_said (exchanges.Word word _) = command_of word
command_said (exchanges.WroteTwo _ _) = commands.Write
command_said (exchanges.Brief _ command) = command_in command
command_said (exchanges.SnappedIdle name _) = commands.Snap name
command_said (exchanges.Snapped name _) = commands.Snap name
command_said (exchanges.NotSeen name x _) = commands.See name x
command_said (exchanges.SawMulti name multi _) = commands.SeeMulti name multi
command_said (exchanges.Multi _ _ _ command) = command.value
command_said (exchanges.Other said) = said.value.command

abbrev pub reply_said : Exchange → Reply
reply_said (exchanges.Word _ reply) = reply_in reply
reply_said (exchanges.WroteTwo warn ids) = replies.Wrote warn ids
reply_said (exchanges.Brief reply _) = reply_of reply
reply_said (exchanges.SnappedIdle _ limit) = replies.Snapped (idle_data limit limit)
reply_said (exchanges.Snapped _ reply) = reply.value
reply_said (exchanges.NotSeen _ _ refusal) = replies.Refused refusal.value
reply_said (exchanges.SawMulti _ _ reply) = reply.value
reply_said (exchanges.Multi warn offset multi _) = replies.Multi multi offset warn
reply_said (exchanges.Other said) = said.value.reply

abbrev pub Says : Exchange → Command → Reply → Type 0
Says exchange command reply = (command_said exchange ≡ command) × (reply_said exchange ≡ reply)
