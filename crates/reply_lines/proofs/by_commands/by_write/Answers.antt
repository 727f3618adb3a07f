use Rattle.std.proofs.Common.{ap, ◌∙◌}
use Rattle.tx_model.specs.declared.reply.Reply.TheVariants as replies
use Rattle.reply_lines.proofs.Replying.{stopped_is, wrote_is}
use Rattle.reply_lines.proofs.by_commands.by_write.Goals as goal

pub returns-in-Wrote : goal.returns-in-Wrote
returns-in-Wrote g c = wrote_is g.s c.in-Wrote.ids c.in-Wrote.warn c.args.reply.now c.args.standing.now c.is_open.result c.is_given_late.result c.are_same.result c.both.result c.in-Wrote.is c.requires.1.0 c.is_open.ensures c.is_given_late.ensures c.are_same.ensures c.both.ensures

pub returns-in-Stop : goal.returns-in-Stop
returns-in-Stop g c = stopped_is g.s c.in-Stop.next c.in-Stop.stop c.args.reply.now c.args.standing.now c.is_lacking.result c.is_stopped.result c.both-in-Stop.result (c.in-Refused.is ∙ ap (λ r. replies.Refused r) c.in-Stop.is) c.requires.1.0 c.is_lacking.ensures c.is_stopped.ensures c.both-in-Stop.ensures
