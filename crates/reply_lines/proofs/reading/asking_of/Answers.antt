use Rattle.reply_lines.proofs.Askings.{asking_is}
use Rattle.reply_lines.proofs.reading.asking_of.Goals as goal

pub returns-clause-asking : goal.returns-clause-asking
returns-clause-asking g c =
    let r = c.requires.1 in
    let line = r.1.1.1.0 in
    asking_is g.of.at c.args.known.now c.args.round c.args.number c.args.by line.0 c.reading_at.result c.multi_reading_at.result r.0 r.1.0 r.1.1.0 line.1 line.2 r.1.1.1.1 c.reading_at.ensures c.multi_reading_at.ensures
