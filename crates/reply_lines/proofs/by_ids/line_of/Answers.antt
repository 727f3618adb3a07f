use Rattle.reply_lines.proofs.Spots.{line_of_snap}
use Rattle.reply_lines.proofs.by_ids.line_of.Goals as goal

pub returns : goal.returns
returns g c = line_of_snap g.s c.args.known.now c.args.asking c.requires.0 c.args.number c.requires.1.0 c.requires.1.1 c.number.result c.number.ensures
