use Rattle.std.proofs.Common.{ap, ◌∙◌}
use Rattle.tx_model.specs.declared.reply.Reply.TheVariants as replies
use Rattle.reply_lines.proofs.Replying.{future_is, known_is, status_old_is}
use Rattle.reply_lines.proofs.by_commands.by_status.Goals as goal

pub returns-in-Known : goal.returns-in-Known
returns-in-Known g c = known_is g.s c.args.x c.in-Known.status c.args.reply.now c.has_status.result c.in-Known.is c.requires.1.1 c.has_status.ensures

pub returns-in-Future : goal.returns-in-Future
returns-in-Future g c = future_is g.s c.args.x c.in-Future.next c.args.reply.now c.is_to_come.result (c.in-Refused.is ∙ ap (λ r. replies.Refused r) c.in-Future.is) c.requires.1.1 c.is_to_come.ensures

pub returns-in-TooOld : goal.returns-in-TooOld
returns-in-TooOld g c = status_old_is g.s c.args.x c.in-TooOld.oldest c.args.reply.now c.is_below.result c.is_carried.result c.both.result (c.in-Refused.is ∙ ap (λ r. replies.Refused r) c.in-TooOld.is) c.requires.1.1 c.is_below.ensures c.is_carried.ensures.whole c.both.ensures
