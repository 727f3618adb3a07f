use Rattle.reply_lines.proofs.Replying.{did_is}
use Rattle.reply_lines.proofs.by_commands.by_did.Goals as goal

pub returns-in-Did : goal.returns-in-Did
returns-in-Did g c = did_is g.s c.args.x c.in-Did.yes c.args.reply.now c.did.result c.in-Did.is c.requires.1.1 c.did.ensures
