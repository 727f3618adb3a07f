use Rattle.reply_lines.proofs.Replying.{made_is}
use Rattle.reply_lines.proofs.by_commands.by_multi.Goals as goal

pub returns-in-Multi : goal.returns-in-Multi
returns-in-Multi g c = made_is g.s c.args.pairs.now c.in-Multi.multi c.in-Multi.offset c.in-Multi.warn c.args.reply.now c.is_made_late.result c.are_same.result c.in-Multi.is c.is_made_late.ensures c.are_same.ensures
